pub mod Catalogs
pub mod Offers
pub mod PlainRules
pub mod Shapes
