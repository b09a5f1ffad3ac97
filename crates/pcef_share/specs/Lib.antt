pub mod Amounts
pub mod Names
pub mod Pools
pub mod Rates
pub mod private
