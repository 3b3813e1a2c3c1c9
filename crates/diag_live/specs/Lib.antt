pub mod Bench
pub mod Devices
pub mod Hearing
pub mod Live
pub mod Pace
pub mod Serving
pub mod Stops
pub mod Story
