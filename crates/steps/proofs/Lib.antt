pub mod Inputs
pub mod StepOnce
pub mod Stations
