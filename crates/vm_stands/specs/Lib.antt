pub mod Stands
pub mod Flight
pub mod Ahead
pub mod Laws
pub mod Slice
