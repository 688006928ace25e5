-- What is read, listed and printed of a source text. Answer states it, by the text's token list; Report what a program
-- prints; Contract ties the code's answers to them.
pub mod Answer
pub mod Report
pub mod Contract
