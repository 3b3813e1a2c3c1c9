pub mod Compare
pub mod Expects
pub mod Hearing
pub mod Meaning
pub mod Told
