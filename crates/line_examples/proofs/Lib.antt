mod Computing
mod Lines
mod Questions
mod Operations
mod Scripts
