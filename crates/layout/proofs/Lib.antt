pub mod Fitting
pub mod Passing
pub mod Writing
pub mod Taking
