pub mod Words
pub mod Message
pub mod Hash
pub mod Schedule
pub mod Sha1
pub mod Sha2
pub mod Window
pub mod Sizes
