pub mod Columns
pub mod SizeLaws
