pub mod Kinds
pub mod Carried
pub mod Calls
pub mod Laws
