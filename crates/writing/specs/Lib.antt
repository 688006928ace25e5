-- What the writers of generics write (Rows, Generics, Names) and answer (Answer), from document 01; examples; and how
-- what was written reads back (ReadBack).
pub mod Rows
pub mod Generics
pub mod Names
pub mod Answer
pub mod Depth
pub mod IsList
pub mod Examples
pub mod ReadBack
