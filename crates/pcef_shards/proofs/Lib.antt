pub mod Comings
pub mod Fronts
pub mod Names
pub mod Parted
pub mod Sortings
pub mod Starts
pub mod Ways
