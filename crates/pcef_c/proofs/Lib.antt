pub mod Judged
pub mod Steps
pub mod Taken
