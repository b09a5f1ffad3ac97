pub mod Commands
pub mod Ends
pub mod Feeding
pub mod Handing
pub mod Leaving
pub mod Splitting
