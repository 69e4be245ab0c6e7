pub mod Blank
pub mod ListEdits
pub mod Opinions
pub mod SameEdits
