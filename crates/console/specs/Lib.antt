pub mod Naming
pub mod Sentences
