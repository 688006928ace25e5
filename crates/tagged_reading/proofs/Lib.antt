-- Laws on the reading and the grammar, which proofs above cite.
pub mod Told
pub mod Complete
pub mod Promise
pub mod Wider
pub mod Marks
pub mod Examples
