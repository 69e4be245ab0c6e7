mod Computing
mod Machine
mod Tokens
mod Values
mod Lists
mod Paths
mod Refusals
