pub mod Bindings
pub mod BindingSteps
pub mod Standing
