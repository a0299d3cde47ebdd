pub mod State
pub mod Buffers
pub mod Mapped
pub mod Rows
pub mod Streaming
pub mod Sound
