pub mod Receiving
pub mod Reaching
pub mod Claiming
