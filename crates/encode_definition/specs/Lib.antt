pub mod Arguments
pub mod Encode
