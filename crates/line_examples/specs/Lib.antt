pub mod Lines
pub mod Questions
pub mod Operations
pub mod Scripts
