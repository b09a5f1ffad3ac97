pub mod AddsUp
pub mod Named
