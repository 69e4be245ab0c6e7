pub mod KeyOrder
pub mod LookUps
pub mod Named
pub mod Rules
pub mod Worlds
