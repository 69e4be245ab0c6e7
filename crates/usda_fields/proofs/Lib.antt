mod Below
mod Selected
