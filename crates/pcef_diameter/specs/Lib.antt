pub mod Avps
pub mod Headers
pub mod Laws
pub mod Numbers
pub mod Spellings
