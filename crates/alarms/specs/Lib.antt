pub mod Comparators
pub mod Faults
pub mod Meaning
pub mod Steps
