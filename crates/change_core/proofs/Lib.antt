mod Histories
mod Keeping
mod Searches
