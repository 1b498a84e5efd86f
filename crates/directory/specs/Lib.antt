pub mod Head
pub mod Pages
pub mod Rows
pub mod Hash
pub mod Flags
pub mod Formed
