pub mod Sizes
pub mod Chains
pub mod PutSizes
pub mod PutLevels
