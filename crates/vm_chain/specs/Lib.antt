pub mod Chain
pub mod Desc
pub mod Walk
