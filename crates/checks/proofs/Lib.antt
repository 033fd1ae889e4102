pub mod Firsts
pub mod Lower
pub mod Bits
pub mod Within
pub mod Repeats
pub mod Unset
pub mod Flows
pub mod Asked
