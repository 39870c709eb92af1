pub mod Folds
pub mod Groups
pub mod Running
pub mod States
