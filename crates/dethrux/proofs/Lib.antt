mod Bounds
mod WtfBounds
