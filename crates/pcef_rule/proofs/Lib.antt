pub mod OrderOfRules
