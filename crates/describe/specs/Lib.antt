-- What the describe crate's contracts say. Value and Listing state the texts, from document 01; Integer what an integer
-- literal is worth, and Numbers the variants' numbers, from the Reference; Marks that marks change nothing of them;
-- Contract ties the code's answers to them.
pub mod Value
pub mod Integer
pub mod Numbers
pub mod Listing
pub mod Marks
pub mod Contract
