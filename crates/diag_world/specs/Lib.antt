pub mod Headline
pub mod Channel
pub mod Weaving
pub mod World
pub mod LazyPort
pub mod Server
pub mod Block
