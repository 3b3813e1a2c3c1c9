pub mod Entered
pub mod Expecting
pub mod Varying
