pub mod Compared
pub mod Idle
pub mod Keeping
pub mod Ticks
