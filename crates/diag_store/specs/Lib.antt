pub mod Rows
pub mod Dids
pub mod Fault
pub mod Dtcs
pub mod Routines
pub mod Security
pub mod Answers
pub mod Opening
