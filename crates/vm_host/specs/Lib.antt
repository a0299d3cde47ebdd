pub mod Waiting
pub mod Host
pub mod Chains
pub mod Steps
pub mod Keeps
pub mod Part
pub mod Growth
