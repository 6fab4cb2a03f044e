pub mod OriginalCalls
pub mod OriginalCases
pub mod OriginalCodec
pub mod OriginalFunctions
pub mod TwoFormats
