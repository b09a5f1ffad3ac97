pub mod Identities
pub mod Proxies
pub mod Sent
