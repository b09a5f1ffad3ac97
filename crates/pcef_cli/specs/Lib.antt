pub mod Hints
pub mod Statuses
