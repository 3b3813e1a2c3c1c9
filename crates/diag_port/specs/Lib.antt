pub mod Fault
pub mod Held
pub mod Late
pub mod Port
pub mod Releasing
pub mod Standing
pub mod Laws
pub mod Block
