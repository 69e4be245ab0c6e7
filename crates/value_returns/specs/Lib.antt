pub mod FullPaths
pub mod Proper
pub mod Fields
pub mod Laws
pub mod Examples
