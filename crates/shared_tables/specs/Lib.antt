pub mod Rest
pub mod Trees
