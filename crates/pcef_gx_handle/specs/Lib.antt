pub mod Dialogues
pub mod Ending
pub mod Hearing
pub mod Opening
pub mod Proposals
pub mod Renewing
pub mod Telling
pub mod private
