-- Laws on the texts and on where parts stand, which the proofs of the functions cite.
pub mod Parts
pub mod Worths
pub mod Answers
pub mod Costs
pub mod Ends
pub mod Lined
pub mod Integers
pub mod Numbering
pub mod Sightings
pub mod Distinct
pub mod Length
pub mod Marks
pub mod Examples
