pub mod DecimalLaws
pub mod HexadecimalLaws
pub mod Laws
pub mod Putting
pub mod Words
