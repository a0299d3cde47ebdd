pub mod Across
pub mod Lines
pub mod Served
