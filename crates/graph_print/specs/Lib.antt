pub mod Places
pub mod TermText
pub mod GraphText
pub mod Indexed
pub mod Examples
