pub mod Gaps
mod Halving
pub mod Marking
mod Marks
pub mod Orders
pub mod Sifting
