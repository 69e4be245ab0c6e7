pub mod Propertied
pub mod Rooms
pub mod Rooted
pub mod Seen
pub mod Treed
