pub mod Checking
pub mod Encoding
pub mod Forms
pub mod Limits
pub mod Meaning
pub mod Refusals
pub mod Words
