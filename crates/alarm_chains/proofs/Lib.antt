pub mod Aims
pub mod Chase
pub mod Outcomes
pub mod RingCounts
