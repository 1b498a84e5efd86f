pub mod Slots
pub mod Matches
pub mod Lent
