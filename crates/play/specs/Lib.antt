pub mod Stories
pub mod Laws
pub mod Views
