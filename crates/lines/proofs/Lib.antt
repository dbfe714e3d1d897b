pub mod LineSplits
pub mod LineSteps
