mod CheckedHistory
mod Images
mod LinesBehind
mod Made
mod Marks
mod There
