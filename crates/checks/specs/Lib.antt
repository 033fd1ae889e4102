pub mod Lowering
pub mod Settings
pub mod Asking
pub mod Passing
pub mod Outcomes
