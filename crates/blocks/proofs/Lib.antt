pub mod Filled
pub mod Settled
