pub mod Check
pub mod Frame
pub mod Hex
pub mod Line
pub mod Numbers
pub mod Reading
pub mod Writing
