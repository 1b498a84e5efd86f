-- Laws that belong to no one function.
pub mod Blocks
pub mod Padding
pub mod Digests
pub mod Windows
pub mod Rounds
pub mod Rounds1
pub mod LastSixteen
pub mod Elements
pub mod Short
pub mod Rotations
pub mod Shifts
pub mod Examples
pub mod Sizes
