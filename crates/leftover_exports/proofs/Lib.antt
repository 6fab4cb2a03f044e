pub mod Laws
pub mod Restored
