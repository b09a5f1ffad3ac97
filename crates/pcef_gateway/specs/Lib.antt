pub mod Arriving
pub mod Commanding
pub mod Ending
pub mod Faults
pub mod InOrder
pub mod Sending
pub mod Serving
pub mod Taking
