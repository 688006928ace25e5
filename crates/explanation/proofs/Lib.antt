-- Laws on the definitions, which the proofs of the functions cite.
pub mod Texts
pub mod Lengths
