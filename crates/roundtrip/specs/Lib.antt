pub mod Cases
pub mod Codec
pub mod Document01
pub mod LeftoverCases
pub mod Leftovers
pub mod Smccc
pub mod SmcccCases
