pub mod Feeds
pub mod Numbering
pub mod Advancing
pub mod Fetching
pub mod Parsing
