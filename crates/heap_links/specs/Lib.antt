pub mod Columns
pub mod Links
pub mod Vacant
