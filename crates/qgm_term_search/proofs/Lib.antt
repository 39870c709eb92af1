pub mod Operators
pub mod PostfixLaws
pub mod PostfixRead
