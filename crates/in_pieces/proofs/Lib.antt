pub mod Determined
pub mod Repeat
pub mod Chunks
