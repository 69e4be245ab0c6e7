pub mod OpenValues
pub mod Headings
pub mod PropertyDrafts
