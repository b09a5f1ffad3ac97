pub mod Transports
