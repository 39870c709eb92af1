pub mod TableNames
pub mod Keys
pub mod Nesting
pub mod Catalog
pub mod Shown
pub mod Descriptor
