-- What the tagged_attribute crate's contracts say: Contract ties the code's answers to what is read, Listing has the
-- text of an answer, and Reported ties the written lines to it.
pub mod Contract
pub mod Listing
pub mod Reported
