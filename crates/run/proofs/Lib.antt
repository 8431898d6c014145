mod Slices
mod CloseOnce
mod Feeds
mod Spent
mod TurnsTaken
mod RunsTurned
mod Promised
