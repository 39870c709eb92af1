pub mod Booleans
pub mod Membership
pub mod Counting
pub mod Indexed
