pub mod Adding
pub mod Joined
pub mod Ports
pub mod Read
pub mod RuleTexts
pub mod Sets
