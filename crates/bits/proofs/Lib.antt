pub mod Fields
pub mod HalfLaws
pub mod Masks
pub mod Picks
pub mod SameBits
pub mod TwosComplement
pub mod Xor
