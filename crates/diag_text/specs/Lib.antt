pub mod Agreed
pub mod Bytes
pub mod Devices
pub mod Faults
pub mod Taking
pub mod Text
pub mod Part
