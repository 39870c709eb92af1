pub mod OneText
mod Along
mod Back
mod LikeText
mod Meeting
pub mod Walks
