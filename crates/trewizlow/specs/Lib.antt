pub mod Interface
pub mod Shown
