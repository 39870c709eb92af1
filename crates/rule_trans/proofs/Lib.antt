pub mod FollowsKeeps
pub mod Preserving
mod AddSteps
mod Alone
mod Rows
mod JointRows
mod PairSets
mod EqualColumnsPlans
mod EqualLiteralPlans
mod EqualLiteralSteps
mod LiteralRows
mod FixedPlaces
