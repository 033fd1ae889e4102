pub mod Reserving
pub mod Scanning
pub mod Splitting
pub mod Numbering
pub mod Cutting
pub mod Spelled
pub mod Comments
pub mod Digits
