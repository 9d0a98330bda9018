pub mod Ups
pub mod Growing
pub mod Leaving
pub mod Whole
pub mod Ending
pub mod Telling
