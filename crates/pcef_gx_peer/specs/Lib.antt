pub mod Exchanges
pub mod Fronts
pub mod Kinds
pub mod Laws
pub mod Nodes
