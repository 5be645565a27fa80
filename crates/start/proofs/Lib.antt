pub mod Asserting
pub mod Families
pub mod Stating
pub mod Witnesses
pub mod Marking
