pub mod Classes
pub mod Command
pub mod Line
pub mod Named
pub mod Reading
