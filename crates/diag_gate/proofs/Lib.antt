pub mod Owned
pub mod Begins
pub mod Keeps
pub mod Delays
pub mod Given
pub mod Hosts
pub mod Steps
