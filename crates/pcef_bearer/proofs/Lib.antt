pub mod BoundBearers
pub mod GivenIds
pub mod BindingKept
pub mod Names
pub mod Putting
pub mod Sums
