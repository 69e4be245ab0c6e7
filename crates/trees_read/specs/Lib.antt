pub mod Stacks
pub mod Names
pub mod Trees
pub mod Drafts
pub mod Laws
pub mod Lists
