pub mod Items
pub mod Edits
mod Reading
mod Places
pub mod Begun
mod References
pub mod FieldActs
mod Beside
pub mod Keys
pub mod Others
pub mod Proper
