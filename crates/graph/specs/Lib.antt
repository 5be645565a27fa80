pub mod Digraph
pub mod Reached
pub mod Visits
