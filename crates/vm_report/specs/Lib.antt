pub mod Digest
pub mod Lent
pub mod Logs
pub mod Printed
pub mod Printing
pub mod Reading
pub mod Text
