pub mod Answers
pub mod Explained
pub mod Examples
pub mod Stated
