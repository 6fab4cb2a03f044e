pub mod Digits
pub mod DecimalLaws
pub mod HexadecimalLaws
pub mod Text
pub mod Put
