-- Laws that belong to no one function.
pub mod Commands
pub mod Table
pub mod Walked
pub mod Plainly
pub mod Parts
pub mod Same
