pub mod Explanations
pub mod ProfileKeys
pub mod ProfileOf
pub mod ProfileValues
