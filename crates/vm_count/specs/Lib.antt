pub mod Pass
pub mod Rule
