pub mod Machine
pub mod Views
pub mod Dates
pub mod DatedViews
pub mod Compared
