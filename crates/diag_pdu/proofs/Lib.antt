pub mod Lists
pub mod Lengths
pub mod CutFrames
pub mod Classic
