pub mod OneShow
pub mod PlainWords
pub mod Showing
pub mod WrittenTexts
