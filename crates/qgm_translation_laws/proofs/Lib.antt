mod Accepted
pub mod Agreed
pub mod Boxes
mod Cells
mod Chains
pub mod Clauses
mod Fit
pub mod Formed
pub mod FormedKeys
pub mod FormedSampled
pub mod Frames
mod Full
mod Joined
mod Keys
pub mod Known
mod LaidGraphs
mod LaidOver
mod LaidTold
pub mod Levels
pub mod LikeBoxes
pub mod LikeGraphs
pub mod LikeKids
pub mod LikeParts
pub mod LikeTerms
mod Lookups
mod Numbers
pub mod OneToOne
mod Operators
pub mod Parts
pub mod Passes
mod Placed
mod Plain
pub mod Reached
pub mod Reused
mod Roots
mod Resolving
mod Runs
mod Sampled
pub mod SampledThere
mod SchemaSources
mod Schemas
pub mod Satisfied
pub mod Settled
pub mod Shaped
mod Sights
mod Spans
mod Standing
mod Stated
pub mod Telling
pub mod TermsAre
mod Tests
pub mod Together
pub mod ToldAlike
pub mod TypesAlike
pub mod TypesFollow
mod Typing
mod TypingSchemas
mod Widths
