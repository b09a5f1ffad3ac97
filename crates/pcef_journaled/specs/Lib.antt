pub mod ArchiveView
pub mod Archived
pub mod Archiving
pub mod KeptNames
pub mod KeptRows
pub mod NamesView
pub mod StoreView
