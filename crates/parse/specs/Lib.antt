-- What ties the code's answers and the role buffer to the reading, whose meaning stands in the crate `reading`.
pub mod Meets
pub mod Parts
pub mod Bodies
pub mod Contract
