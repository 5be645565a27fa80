pub mod Computing
pub mod Drawing
pub mod Unique
pub mod Marking
