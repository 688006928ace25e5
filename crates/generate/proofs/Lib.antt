-- Laws on the contracts, which the proofs of the functions cite.
pub mod Builds
pub mod Copying
pub mod Added
pub mod Constrained
pub mod Parameters
pub mod Answers
