pub mod Built
pub mod Rewriting
pub mod Elsewhere
pub mod MagicEnds
pub mod BoxLimit
