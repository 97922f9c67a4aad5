pub mod Laid
pub mod Reads
