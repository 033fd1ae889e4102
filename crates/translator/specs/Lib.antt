pub mod Refusing
pub mod Emitting
pub mod Translating
