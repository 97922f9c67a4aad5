pub mod Arrivals
pub mod Runs
