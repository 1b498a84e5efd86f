-- Laws, by subject.
pub mod Parts
pub mod Pages
pub mod Ranges
pub mod Spliced
