pub mod Kinds
pub mod Same
pub mod SideBySide
