pub mod Afters
pub mod Folding
pub mod Grouped
pub mod Lists
pub mod Onning
pub mod Stacked
pub mod Steps
pub mod Wholes
