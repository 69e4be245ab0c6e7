mod Ends
mod Ups
