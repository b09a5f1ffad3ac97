pub mod Definition
pub mod Gate
pub mod Name
pub mod Precedence
pub mod Priority
pub mod QciKinds
