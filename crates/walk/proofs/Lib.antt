pub mod Sets
pub mod Filling
pub mod Declaring
pub mod Meanings
