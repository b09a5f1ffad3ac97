-- What only private clauses speak of: a reader of the public ones may pass over it.
pub mod FrameLines
pub mod Framing
pub mod Fronts
pub mod Running
pub mod Steps
