pub mod Lists
pub mod private
