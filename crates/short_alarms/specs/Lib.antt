pub mod Countdown
pub mod LowBit
pub mod Reaches
