pub mod Commute
