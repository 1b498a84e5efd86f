-- What the exports are held to.
pub mod Contracts
