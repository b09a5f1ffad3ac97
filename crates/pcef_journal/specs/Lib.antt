pub mod JournalView
pub mod KeptJournal
pub mod Lanes
