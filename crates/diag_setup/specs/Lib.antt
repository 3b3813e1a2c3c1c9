pub mod Rows
pub mod Setup
pub mod Fits
pub mod Fault
pub mod ExampleSetup
