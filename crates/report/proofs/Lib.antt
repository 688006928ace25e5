-- Laws on the report of the roles, which the proofs of the functions cite.
pub mod Lines
