pub mod Bulk
pub mod Run
pub mod Top
pub mod Words
