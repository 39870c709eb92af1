pub mod Size
pub mod Levels
pub mod SizeLaws
