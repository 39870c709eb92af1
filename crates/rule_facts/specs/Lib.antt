pub mod Laws
pub mod Told
pub mod Places
pub mod FactsWithoutDistinct
pub mod FedClosed
