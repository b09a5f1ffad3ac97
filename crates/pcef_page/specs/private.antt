pub mod Lines
pub mod Rules
pub mod Steps
