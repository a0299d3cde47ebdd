pub mod Formats
pub mod Queues
pub mod Refusals
