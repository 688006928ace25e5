-- Laws on the answers, which the proofs of the functions cite.
pub mod Lists
pub mod Listings
pub mod Readings
pub mod Found
pub mod Reports
