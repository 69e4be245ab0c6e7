pub mod Counted
pub mod Gathered
pub mod Noted
pub mod Times
pub mod Types
