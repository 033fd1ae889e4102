pub mod CommandSimple
pub mod CommandRing
