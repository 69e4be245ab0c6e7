pub mod Targets
pub mod Values
pub mod Sound
pub mod Laws
pub mod Drafts
pub mod DraftLaws
pub mod Stacks
pub mod Aims
