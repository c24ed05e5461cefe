pub mod Frames
pub mod ReadFrames
pub mod Names
pub mod Fronts
pub mod Streams
