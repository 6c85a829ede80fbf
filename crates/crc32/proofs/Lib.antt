pub mod Determined
pub mod Examples
pub mod Linear
pub mod Lists
pub mod Message
pub mod Rows
pub mod Stream
