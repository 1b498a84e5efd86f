-- Laws, by subject.
pub mod Tabs
pub mod Marking
pub mod Remarked
pub mod Tests
