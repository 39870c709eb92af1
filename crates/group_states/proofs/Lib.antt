pub mod After
pub mod Entries
pub mod Rows
pub mod Taking
