pub mod Carrying
pub mod Fates
pub mod Keeping
pub mod Naming
pub mod Standing
