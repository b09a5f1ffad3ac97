pub mod BlockReadings
pub mod Growth
pub mod Nanoseconds
pub mod OptionSearch
pub mod Readings
pub mod Streams
pub mod Totality
