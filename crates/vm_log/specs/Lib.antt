pub mod LegalLog
pub mod Answers
pub mod Places
pub mod Laws
