pub mod Reading
pub mod Reasons
pub mod Naming
pub mod Program
