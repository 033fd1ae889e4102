pub mod Shown
pub mod Lines
pub mod Excerpts
