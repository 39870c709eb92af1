mod ClassLemmas
mod ReaderLemmas
mod Refusals
