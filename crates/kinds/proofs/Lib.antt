pub mod Results
pub mod StateLaws
pub mod Settled
