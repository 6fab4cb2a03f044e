pub mod Answering
pub mod Choosing
pub mod FieldWords
pub mod Inverting
pub mod Lending
pub mod LentLaws
pub mod Refusals
pub mod Telling
