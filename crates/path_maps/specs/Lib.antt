pub mod Maps
pub mod Prims
pub mod Same
