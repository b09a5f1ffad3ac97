pub mod Apart
pub mod ApartLaws
pub mod Newest
pub mod private
pub mod Steps
pub mod Workers
pub mod Worlds
