pub mod Bytes
pub mod Counted
pub mod Faults
pub mod MemSink
pub mod MemSource
pub mod Plan
