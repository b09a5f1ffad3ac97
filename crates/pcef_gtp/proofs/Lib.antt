pub mod ExtensionSearch
