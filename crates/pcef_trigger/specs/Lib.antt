pub mod Deliveries
pub mod Kinds
pub mod Laws
pub mod private
