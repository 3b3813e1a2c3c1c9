pub mod Agreements
pub mod Courses
mod Examples
pub mod Few
pub mod Finding
pub mod Hearing
pub mod Lists
pub mod Loops
pub mod Meanings
pub mod Once
pub mod Sorted
pub mod Streams
pub mod Taking
