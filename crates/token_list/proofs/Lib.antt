-- Laws on the definitions, which the proofs of the functions cite.
pub mod Table
pub mod Texts
pub mod Digits
pub mod Pairs
pub mod Lines
pub mod Forms
pub mod Columns
pub mod Starts
pub mod Walks
pub mod Rows
pub mod Streams
pub mod Passed
pub mod Passes
pub mod Marks
pub mod Bounds
pub mod Stores
pub mod Readers
