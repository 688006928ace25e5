-- What the explanation crate's contracts say: Row has a row as it is shown, Words the words for roles and refusals,
-- Explanation what is written.
pub mod Row
pub mod Words
pub mod Explanation
