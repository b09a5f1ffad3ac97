pub mod SessionSlots
pub mod Sides
pub mod Sources
pub mod Tables
pub mod Verdicts
