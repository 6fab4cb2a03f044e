pub mod Answers
pub mod Errors
pub mod Inverses
pub mod Lent
pub mod LentLaws
pub mod Refusals
pub mod Told
