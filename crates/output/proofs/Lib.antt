-- Laws on texts that are written, which the proofs of the functions cite.
pub mod Texts
pub mod Appends
pub mod Answers
pub mod Writers
