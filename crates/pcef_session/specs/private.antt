-- What only private clauses speak of: a reader of the public ones may pass over it.
pub mod Changes
pub mod Entries
pub mod Keys
pub mod Parts
pub mod Sessions
pub mod Soundness
pub mod TakenRows
