pub mod Buffers
pub mod Event
pub mod Payload
pub mod Records
pub mod Wire
pub mod Message
