-- Laws on the role buffer and the contracts, which the proofs of the functions cite.
pub mod Buffer
pub mod Meeting
pub mod Places
pub mod Turns
pub mod Hashes
pub mod Looks
pub mod Heads
pub mod Loops
pub mod Parameters
pub mod Bodies
pub mod Items
pub mod Inside
