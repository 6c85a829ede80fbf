pub mod Rows
pub mod Scan
pub mod Reader
pub mod Volume
pub mod Budget
pub mod Listing
pub mod Good
pub mod Cases
