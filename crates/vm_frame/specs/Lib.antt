pub mod Frame
pub mod Mem
pub mod Scatter
pub mod User
