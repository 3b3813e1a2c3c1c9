pub mod Answer
pub mod Fault
pub mod Key
pub mod Setup
pub mod Text
