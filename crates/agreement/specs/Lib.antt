pub mod Turns
pub mod Histories
pub mod Agreement
pub mod Instances
