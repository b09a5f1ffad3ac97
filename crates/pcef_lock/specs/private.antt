pub mod OwnView
pub mod Soundness
