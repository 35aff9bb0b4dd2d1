pub mod Lines
pub mod Priced
pub mod Refusals
pub mod Answers
pub mod Numbers
pub mod Laws
