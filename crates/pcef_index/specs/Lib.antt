pub mod Candidates
pub mod Places
pub mod Shelves
pub mod private
