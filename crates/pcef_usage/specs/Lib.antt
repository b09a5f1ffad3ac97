pub mod Commands
pub mod Counted
pub mod Flushes
pub mod CountedView
pub mod Keys
pub mod PendingReports
