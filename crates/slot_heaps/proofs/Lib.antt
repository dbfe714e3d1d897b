pub mod Firsts
pub mod Heads
pub mod Inserting
pub mod Laying
mod Picked
mod TwoHeaps
pub use Rattle.key_heaps.proofs.Orders
