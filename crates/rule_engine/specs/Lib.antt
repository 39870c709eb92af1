pub mod Control
pub mod Trace
pub mod Laws
pub mod Examples
