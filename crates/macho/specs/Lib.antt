pub mod Rows
pub mod Commands
pub mod Walked
