pub mod Lengths
pub mod Pieces
pub mod Records
pub mod Turns
