pub mod Spoiling
