pub mod Counting
pub mod Cuts
