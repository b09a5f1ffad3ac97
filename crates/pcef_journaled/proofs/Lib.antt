pub mod Archived
pub mod Named
pub mod Placed
pub mod Walked
