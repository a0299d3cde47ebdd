pub mod GuestMemory
pub mod Lists
pub mod Page
pub mod Seeded
