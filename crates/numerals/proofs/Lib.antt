pub mod Digits
pub mod Decoded
