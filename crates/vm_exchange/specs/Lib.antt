pub mod Entries
pub mod Exchange
pub mod Messages
pub mod Range
pub mod Laws
