-- What the generate crate's contracts say. Contract ties the code's answers to what `writing` defines.
pub mod Contract
