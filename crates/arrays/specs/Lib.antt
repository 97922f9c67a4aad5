pub mod Writes
pub mod Taking
pub mod Nodes
pub mod Represents
pub mod Instants
pub mod Turns
