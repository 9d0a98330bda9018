pub mod Steps
pub mod Views
pub mod Runs
pub mod Laws
pub mod Words
