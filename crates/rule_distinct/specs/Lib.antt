pub mod PlainAt
pub mod DropKeyDistinct
pub mod DropKeyDistinctExact
pub mod PermitDistinct
pub mod PermitDistinctExact
pub mod DropUnionDistinct
pub mod DropUnionDistinctExact
