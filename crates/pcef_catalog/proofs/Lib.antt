pub mod Alternatives
pub mod Views
