pub mod Rules
pub mod Picks
pub mod PickLaws
pub mod RuleIds
