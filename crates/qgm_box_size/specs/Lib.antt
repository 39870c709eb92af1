pub mod Nodes
pub mod BoxLaws
