pub mod Ends
pub mod Entering
pub mod Idle
pub mod LineEnds
pub mod Lines
pub mod Takings
pub mod UnitFrames
