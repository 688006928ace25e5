-- Laws on the contracts, which the proofs of the functions cite.
pub mod Buffers
pub mod Cursors
pub mod Entries
pub mod Turns
pub mod Finding
pub mod Lines
pub mod Lengths
pub mod Answers
pub mod Reports
