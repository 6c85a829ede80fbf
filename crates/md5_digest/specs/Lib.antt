pub mod Rfc1321
pub mod Pieces
pub mod Laws
