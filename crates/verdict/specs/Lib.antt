pub mod Lines
pub mod Links
pub mod Marked
pub mod Verdicts
