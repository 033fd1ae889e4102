pub mod Premises
pub mod NeverStuck
pub mod Simulation
pub mod Agreement
pub mod Passed
