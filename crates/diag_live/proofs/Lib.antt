pub mod Hearings
pub mod Records
pub mod Restamping
pub mod Numbers
pub mod Runnings
pub mod Servings
