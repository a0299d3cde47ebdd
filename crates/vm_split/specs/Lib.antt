pub mod Kept
pub mod Link
pub mod Owners
pub mod Ring
pub mod Stands
