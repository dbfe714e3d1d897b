pub mod HeapOrder
pub mod Levels
pub mod Members
pub mod Sifts
pub mod Sooner
