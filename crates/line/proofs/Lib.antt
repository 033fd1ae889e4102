pub mod Moving
pub mod Holding
pub mod Bytes
