pub mod Skipping
pub mod Filed
pub mod Enters
