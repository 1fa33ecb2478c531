pub mod Board
pub mod Rising
pub mod Held
