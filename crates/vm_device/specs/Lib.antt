pub mod Device
pub mod Brought
pub mod Mappings
pub mod Perform
pub mod Stream
pub mod Keeps
pub mod Sessions
pub mod Lends
