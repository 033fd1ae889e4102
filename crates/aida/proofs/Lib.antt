pub mod Steps
pub mod Runs
pub mod Codes
pub mod Lengths
pub mod Loops
pub mod Examples
