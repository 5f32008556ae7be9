mod Closing
mod Turning
mod Tails
mod Onward
mod Sweeping
