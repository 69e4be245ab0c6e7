pub mod Tokens
pub mod Sound
pub mod Laws
pub mod Words
pub mod Owners
pub mod Texts
pub mod Proper
