pub mod Bytes
pub mod Packet
