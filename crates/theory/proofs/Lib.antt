pub mod Accepting
pub mod Deciding
pub mod Forms
pub mod Members
pub mod Places
pub mod Scanning
