pub mod Texts
pub mod Renewed
pub mod private
