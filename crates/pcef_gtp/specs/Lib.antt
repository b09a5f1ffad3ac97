pub mod Messages
pub mod Numbers
pub mod Outer
pub mod Tunneling
