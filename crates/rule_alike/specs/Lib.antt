pub mod Firings
pub mod FiringLaws
