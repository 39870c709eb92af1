pub mod OtherDistinct
pub mod DropKeyDistinctMeans
pub mod DropKeyDistinctKeeps
pub mod PermitDistinctMeans
pub mod PermitDistinctKeeps
pub mod PermitDistinctEdits
pub mod DropUnionDistinctMeans
pub mod DropUnionDistinctKeeps
mod DropsDistinctEdits
mod ToldKeys
pub mod FirstReader
