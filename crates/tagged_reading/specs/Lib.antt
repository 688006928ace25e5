-- What a tagged attribute is (document 01, module 6, and the Rust Reference 1.63): its entries, the roles of its rows,
-- the grammar, the reading, the whole answer, the promise that each row has one role, and the
-- promise that marks change nothing.
pub mod Entry
pub mod Role
pub mod Grammar
pub mod Reading
pub mod Answer
pub mod Promise
pub mod Marks
pub mod Examples
