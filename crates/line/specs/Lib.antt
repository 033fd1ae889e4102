pub mod Queues
pub mod Answers
pub mod Places
pub mod Registers
pub mod Cells
pub mod Transfers
pub mod Holding
