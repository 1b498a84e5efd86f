pub mod Order
pub mod Rows
pub mod Launch
pub mod Table
pub mod Lookup
pub mod Rules
