pub mod Says
