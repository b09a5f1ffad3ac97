pub mod Heard
pub mod Left
pub mod Requested
pub mod Rooms
pub mod Told
