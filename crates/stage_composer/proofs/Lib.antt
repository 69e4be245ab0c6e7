pub mod Above
pub mod Children
