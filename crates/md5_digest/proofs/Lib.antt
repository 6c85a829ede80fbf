pub mod Operations
pub mod Bytes
pub mod Stream
pub mod Determined
pub mod Examples
