pub mod Entries
pub mod PathTexts
pub mod Scalars
pub mod Shapes
pub mod Drafts
pub mod Takes
pub mod Reads
pub mod Shaping
