-- A source text read as a token list (document 02, card 1), production by production from the Rust Reference 1.63.
pub mod Bytes
pub mod Taken
pub mod Quoted
pub mod Number
pub mod Comment
pub mod Piece
pub mod Lex
pub mod Brackets
pub mod Answer
pub mod Division
pub mod Written
pub mod Contract
pub mod Stack
pub mod Tokens
pub mod Place
pub mod Places
pub mod Report
