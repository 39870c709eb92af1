mod Greedy
mod Listing
pub mod Laws
pub mod Total
