-- What the contract is held to.
pub mod Contracts
