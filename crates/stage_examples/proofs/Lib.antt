mod Values
mod Layers
mod Questions
mod Replies
