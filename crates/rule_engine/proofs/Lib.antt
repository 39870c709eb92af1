pub mod Earliest
pub mod Drawn
pub mod Chosen
pub mod Enabled
pub mod Walked
pub mod Chains
pub mod Examples
pub mod First
