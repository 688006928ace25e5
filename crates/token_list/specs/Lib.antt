-- What the token_list crate's contracts say. Byte and Layout have the names of bytes and numbers; Text, Row, Rows,
-- Check, Place, Stream and Pairs state the meaning, from documents 01 and 02; Contract and Reader tie the code's
-- answers to it.
pub mod Byte
pub mod Layout
pub mod Text
pub mod Row
pub mod Rows
pub mod Check
pub mod Place
pub mod Stream
pub mod Marks
pub mod Pairs
pub mod Contract
pub mod Reader
