-- Laws, by subject.
pub mod Conditions
pub mod Exact
pub mod Joined
pub mod Positions
pub mod Several
pub mod Alike
pub mod Ranges
pub mod Plain
pub mod Numbers
pub mod Results
pub mod Searches
