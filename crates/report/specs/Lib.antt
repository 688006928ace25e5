-- What the report crate's contracts say: Text has the report of the list check, Roles that of the roles.
pub mod Text
pub mod Roles
