pub mod TextLaws
pub mod DecimalLaws
pub mod LineLaws
pub mod ByteLaws
pub mod InputLaws
pub mod WholeLaws
pub mod Settled
