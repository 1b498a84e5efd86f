-- Laws, by subject.
pub mod Order
pub mod Numbers
pub mod Form
pub mod Lookup
pub mod Constraints
pub mod Listed
