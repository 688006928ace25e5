-- What a declaration is to the reader (document 01 and the Rust Reference 1.63): the Reference's keywords and simple
-- paths, the roles, the role grammar, the reading, the whole answer, the promise that each row has one role, and the
-- promise that
-- marks change nothing.
pub mod Keyword
pub mod Role
pub mod Token
pub mod SimplePath
pub mod Declaration
pub mod Took
pub mod Grammar
pub mod Reading
pub mod Place
pub mod Answer
pub mod Promise
pub mod Marks
pub mod Examples
