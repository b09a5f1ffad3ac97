pub mod Again
pub mod Parts
pub mod Readings
pub mod Rooms
pub mod Spelled
