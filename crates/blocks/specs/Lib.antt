pub mod Filled
pub mod Row
