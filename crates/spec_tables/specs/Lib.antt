pub mod Forms
pub mod Places
pub mod Rest
pub mod Same
pub mod Tables
