pub mod Lined
pub mod Hex
pub mod Rules
pub mod Shown
pub mod Scores
pub mod Words
