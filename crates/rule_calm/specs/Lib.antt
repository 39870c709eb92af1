pub mod CalmCloses
pub mod Settled
pub mod SettledKept
pub mod SettledCloses
pub mod Decorrelated
pub mod SettledSample
