-- Laws, by subject.
pub mod Cut
