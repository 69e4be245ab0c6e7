mod ByPath
mod Leaving
