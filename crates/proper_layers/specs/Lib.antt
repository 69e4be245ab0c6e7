pub mod Proper
pub mod Laws
pub mod Examples
