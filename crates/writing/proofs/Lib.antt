-- Laws on what the writers write, which proofs above cite.
pub mod Examples
pub mod Joined
pub mod Balanced
pub mod Runs
pub mod Read
pub mod Written
pub mod Reread
pub mod Sent
pub mod Declared
pub mod ReadBack
pub mod Lengths
pub mod Lists
pub mod Copied
pub mod Refusals
pub mod Names
