pub mod Flows
pub mod private
