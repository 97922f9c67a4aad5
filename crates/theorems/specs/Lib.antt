pub mod Turns
pub mod Demand
pub mod Instances
