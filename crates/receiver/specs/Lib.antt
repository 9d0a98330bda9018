pub mod Whole
pub mod Store
pub mod Few
pub mod Rows
pub mod Fill
pub mod Calls
pub mod Views
pub mod Laws
