pub mod Answers
pub mod Asking
pub mod Assets
pub mod Closure
pub mod Drafts
pub mod Files
pub mod Laws
pub mod Opening
