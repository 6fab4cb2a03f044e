pub mod CallAskedLaws
pub mod DecodedFit
pub mod NineWordsLaws
pub mod OriginalWords
pub mod OwnParts
pub mod OwnWords
