pub mod Kept
pub mod Tokens
pub mod Texts
pub mod Elsewhere
pub mod Reasons
