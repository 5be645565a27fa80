pub mod Facts
pub mod Blanks
pub mod Entries
pub mod Laws
