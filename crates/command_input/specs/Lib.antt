pub mod Printed
pub mod Ready
pub mod Texts
pub mod Questions
pub mod Generated
pub mod Stages
pub mod Unrefused
