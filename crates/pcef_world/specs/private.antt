-- What only private clauses speak of: a reader of the public ones may pass over it.
pub mod Followed
pub mod Places
pub mod Soundness
