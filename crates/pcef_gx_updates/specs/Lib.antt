pub mod Laws
pub mod Updates
