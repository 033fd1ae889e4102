pub mod Forming
pub mod Subtrees
pub mod OneTree
pub mod Nodes
pub mod Uses
pub mod Opening
