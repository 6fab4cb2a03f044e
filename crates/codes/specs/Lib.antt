pub mod CodeLaws
pub mod Codes
