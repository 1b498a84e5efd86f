pub mod Marks
pub mod Lent
