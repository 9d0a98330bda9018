-- The rules of the checks.
pub mod Division
pub mod Addition
pub mod OneOctet
pub mod Register
pub mod Adding
pub mod Names
