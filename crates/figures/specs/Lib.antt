pub mod Shapes
pub mod Figures
