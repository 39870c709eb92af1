pub mod Steps
pub mod Sound
pub mod FixedTables
pub mod MadeFits
pub mod Fixed
pub mod Asking
pub mod Grammar
pub mod NeverRefused
