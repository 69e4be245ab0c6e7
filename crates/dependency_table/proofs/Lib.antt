mod Marked
mod Noted
mod Puts
