pub mod Fusing
pub mod Progressing
pub mod Readings
pub mod Writing
