pub mod Checking
pub mod Counting
pub mod Deciding
pub mod Reading
pub mod Rest
pub mod Scanning
pub mod Viewing
