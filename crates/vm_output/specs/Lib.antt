pub mod Echoes
pub mod Printing
pub mod ScriptLogs
