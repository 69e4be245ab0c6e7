pub mod Machine
pub mod Laws
pub mod Dates
pub mod DatedViews
pub mod Exact
