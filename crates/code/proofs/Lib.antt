mod Decoded
pub mod Counters
mod Mountable
pub mod Written
