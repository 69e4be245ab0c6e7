pub mod Publishing
pub mod Sessions
