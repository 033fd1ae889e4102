pub mod Chains
pub mod Loops
pub mod NameList
pub mod StepScan
pub mod StepToken
pub mod CommandSteps
