pub mod PathMaps
pub mod Flattening
pub mod Answers
pub mod Replies
