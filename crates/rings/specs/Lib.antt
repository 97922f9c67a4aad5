pub mod Rings
pub mod Access
