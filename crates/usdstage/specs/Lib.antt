pub mod Command
pub mod Course
pub mod Kinds
pub mod Outcome
pub mod Refusals
pub mod Statuses
