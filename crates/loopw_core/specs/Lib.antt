pub mod Words
pub mod Lines
pub mod Written
pub mod Reading
pub mod Stopping
pub mod Ends
