pub mod Adding
pub mod Starting
