pub mod NamedLists
pub mod Once
pub mod Places
