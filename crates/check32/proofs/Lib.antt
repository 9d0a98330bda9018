-- The lemmas of the checks.
pub mod HighOctet
