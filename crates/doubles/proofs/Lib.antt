-- Laws on the definitions, which the proofs of the functions and of other crates cite.
pub mod Doubles
pub mod Keys
pub mod Tables
