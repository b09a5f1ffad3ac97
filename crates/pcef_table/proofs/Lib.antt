pub mod Decided
pub mod Flags
pub mod KeepingLoops
pub mod Ordered
