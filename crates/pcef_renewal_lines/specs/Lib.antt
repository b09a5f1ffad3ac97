pub mod Addresses
pub mod Filters
pub mod Rules
pub mod Commands
pub mod Lines
pub mod private
