pub mod Computing
pub mod Direct
pub mod Made
pub mod Pigeon
pub mod Showing
pub mod Sweep
pub mod Walks
