pub mod Exchanges
pub mod LinesLeft
pub mod NamedSums
pub mod RuleLists
pub mod Spaces
pub mod Timed
pub mod UsageLists
