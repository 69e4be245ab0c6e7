pub mod Arcs
pub mod Authoring
pub mod Authors
pub mod ItemOrder
pub mod Outcomes
pub mod SameItems
