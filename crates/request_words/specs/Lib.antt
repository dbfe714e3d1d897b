pub mod Placing
pub mod Sheets
pub mod Tallies
pub mod Words
