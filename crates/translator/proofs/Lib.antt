pub mod Stores
pub mod Exprs
pub mod Cmds
pub mod Wholes
