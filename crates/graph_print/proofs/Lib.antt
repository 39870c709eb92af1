mod Nests
mod Placed
mod Steps
