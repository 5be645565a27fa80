pub mod Answering
pub mod Judgings
pub mod Refusals
