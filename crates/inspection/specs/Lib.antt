pub mod Notation
pub mod Reports
