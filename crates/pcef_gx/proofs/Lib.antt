pub mod Groups
pub mod Lengths
pub mod Names
pub mod OneMessage
pub mod Texts
