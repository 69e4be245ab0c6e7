mod Named
mod Utf8
mod ReadAlone
