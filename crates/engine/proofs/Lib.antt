pub mod ArrivalLaws
pub mod RunLaws
pub mod RunTurns
pub mod EntryLaws
pub mod Settled
