pub mod BufFlags
pub mod Caps
pub mod Errno
pub mod IoctlCode
pub mod Model
