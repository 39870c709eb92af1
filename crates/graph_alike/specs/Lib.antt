pub mod Alike
pub mod OneToOne
pub mod AlikeLaws
