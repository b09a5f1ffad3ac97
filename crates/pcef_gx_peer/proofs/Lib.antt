pub mod Commands
pub mod Rooms
pub mod Streams
