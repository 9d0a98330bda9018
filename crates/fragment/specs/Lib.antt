pub mod Carriers
pub mod Counts
pub mod Streams
pub mod Cutting
pub mod Laws
pub mod Names
