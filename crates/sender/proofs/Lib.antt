pub mod Putting
pub mod Hearing
pub mod Running
