mod LineSplits
mod Streams
mod Paces
mod Runs
mod Mapped
mod Loads
