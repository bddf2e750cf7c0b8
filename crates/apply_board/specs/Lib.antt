pub mod Views
pub mod Board
pub mod Sitting
pub mod Seats
pub mod Closing
pub mod Inner
