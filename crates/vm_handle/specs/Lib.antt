pub mod Messages
pub mod Handle
pub mod Answers
pub mod Laws
