pub mod Declarations
pub mod DeclaredKinds
pub mod Tables
