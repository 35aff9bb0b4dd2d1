pub mod Letters
pub mod Rendered
pub mod Laws
pub mod Answers
