-- Laws that belong to no one function.
pub mod Numbers
pub mod Versions
pub mod Since
pub mod Slots
pub mod Hash
pub mod Flags
pub mod Formed
pub mod Found
pub mod Pages
