pub mod Pieces
pub mod Feeds
pub mod Going
pub mod Passing
pub mod Whole
