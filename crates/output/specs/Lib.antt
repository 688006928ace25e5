-- What writing into a lent output means (Contract), the texts of numbers and refusals (Text), and the answers of
-- functions that write a text (Answer, and Written by the code's Result), from document 01.
pub mod Text
pub mod Contract
pub mod Answer
pub mod Written
pub mod Writes
