pub mod MagicEnds
mod BoxLimit
mod Filters
