pub mod ByCalls
pub mod Elsewhere
pub mod Original
pub mod OriginalCases
pub mod TwoFormats
