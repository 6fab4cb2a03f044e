pub mod OriginalAsked
pub mod OriginalNineWords
pub mod OriginalNineWordsLaws
