pub mod Depth
pub mod Keys
pub mod Tokens
