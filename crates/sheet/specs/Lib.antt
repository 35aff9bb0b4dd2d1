pub mod Listed
pub mod Figures
pub mod Sides
pub mod Fillers
