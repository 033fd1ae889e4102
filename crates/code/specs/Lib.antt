pub mod CodeTable
pub mod Questions
pub mod Mounting
pub mod CodeLaws
