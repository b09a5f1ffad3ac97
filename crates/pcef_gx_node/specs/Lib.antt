pub mod Accesses
pub mod Deeds
pub mod Farewells
pub mod Numberings
