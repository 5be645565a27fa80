pub mod Same
pub mod Held
pub mod Adding
pub mod Joining
pub mod Counting
pub mod Telling
