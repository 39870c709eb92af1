pub mod Characters
pub mod Cells
pub mod Level
pub mod Truths
pub mod Arithmetic
pub mod Comparison
pub mod Like
