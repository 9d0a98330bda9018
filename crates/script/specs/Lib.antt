pub mod Words
pub mod Turns
pub mod Lines
pub mod Scripts
pub mod Written
pub mod Examples
