pub mod Doing
pub mod Firings
pub mod Held
pub mod Logs
pub mod Queues
pub mod Rings
pub mod Services
pub mod Views
