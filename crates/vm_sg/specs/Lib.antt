pub mod Copies
pub mod UserMemory
pub mod Wire
