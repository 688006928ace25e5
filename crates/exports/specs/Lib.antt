-- What the exported functions answer: one number each.
pub mod Code
pub mod SourceCode
pub mod ReadSource
