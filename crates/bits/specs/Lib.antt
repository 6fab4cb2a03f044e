pub mod Bits
pub mod Halves
pub mod SignLaws
pub mod Signs
pub mod XorLaws
