pub mod LaidLaws
pub mod Refused
pub mod Piece
pub mod Places
pub mod ChannelTurn
pub mod Ports
pub mod Whole
pub mod Settled
