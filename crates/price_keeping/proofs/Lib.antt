pub mod Cells
pub mod Changing
pub mod Listed
pub mod Priced
