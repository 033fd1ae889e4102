pub mod Levels
pub mod Operands
