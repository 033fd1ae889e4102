pub mod Walking
pub mod Readings
pub mod Gathering
