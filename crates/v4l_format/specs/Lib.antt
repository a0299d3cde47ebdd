pub mod SampleOrder
pub mod FormatRow
pub mod Fmt
pub mod Triple
pub mod Pattern
pub mod Picture
