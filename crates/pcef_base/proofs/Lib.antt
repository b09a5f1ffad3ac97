pub mod Foremost
pub mod Found
pub mod Fronts
pub mod Keeping
pub mod ListReadings
pub mod Tests
