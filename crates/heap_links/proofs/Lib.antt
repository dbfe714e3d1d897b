pub mod Lengths
mod Pairing
pub mod Reading
