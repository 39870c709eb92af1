pub mod Own
pub mod Below
pub mod Laid
