-- Laws that belong to no one function.
pub mod Numbers
pub mod Formed
pub mod Lookup
pub mod Spans
pub mod Contracts
