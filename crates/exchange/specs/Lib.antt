pub mod Views
pub mod Claims
