pub mod RingLaws
pub mod StoreLaws
pub mod WroteLaws
pub mod PutLaws
pub mod TookLaws
pub mod TakeLaws
pub mod AccessLaws
pub mod Settled
