pub mod HexTexts
pub mod Placings
