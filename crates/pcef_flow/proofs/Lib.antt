pub mod Alike
pub mod Remembering
