pub mod Receiver
pub mod PartialBytes
pub mod Flow
pub mod Sender
pub mod Queue
pub mod Quiet
pub mod Block
