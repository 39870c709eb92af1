pub mod Fit
pub mod Firings
pub mod Rewritten
