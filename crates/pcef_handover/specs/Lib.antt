pub mod Counting
pub mod Lanes
