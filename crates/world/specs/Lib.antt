pub mod Attempts
pub mod Faults
pub mod Settings
