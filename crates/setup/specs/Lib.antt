pub mod Setup
pub mod Fields
pub mod Starts
