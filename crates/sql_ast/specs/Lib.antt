pub mod Syntax
pub mod Shown
pub mod Spelling
pub mod Grammatical
pub mod Names
pub mod Declarations
