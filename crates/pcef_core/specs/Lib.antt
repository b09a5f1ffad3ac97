pub mod Bearing
pub mod Cores
pub mod Deciding
pub mod Keeping
pub mod Places
pub mod Reporting
pub mod Sessions
