-- Laws that the proofs of the functions cite.
pub mod Letters
pub mod Headers
pub mod Windows
pub mod Turns
