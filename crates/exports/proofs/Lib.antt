-- Laws on the answers' numbers.
pub mod Codes
pub mod TaggedCodes
pub mod GeneratedCodes
pub mod SourceCodes
pub mod ReadSources
