pub mod Message
pub mod Fault
pub mod Bytes
pub mod Length
pub mod Cut
pub mod Classic
pub mod Kind
pub mod Request
