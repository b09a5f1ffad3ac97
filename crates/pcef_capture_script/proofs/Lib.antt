pub mod Askings
pub mod Fates
pub mod Fronts
pub mod Progress
pub mod Writings
