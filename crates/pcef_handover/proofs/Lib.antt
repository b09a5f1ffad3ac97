pub mod Compared
pub mod Ledgers
pub mod Loops
pub mod Slots
