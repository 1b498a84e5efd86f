pub mod Refusals
pub mod Ranges
pub mod Named
