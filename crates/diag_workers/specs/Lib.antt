pub mod Work
pub mod Crew
pub mod Seating
pub mod Play
pub mod Fault
