pub mod Turn
pub mod Settled
