pub mod Job
pub mod Entry
