pub mod Explaining
pub mod Outcomes
pub mod NamingSteps
pub mod DeclarProgram
