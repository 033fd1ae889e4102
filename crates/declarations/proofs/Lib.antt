pub mod DeclarNames
pub mod DeclarList
