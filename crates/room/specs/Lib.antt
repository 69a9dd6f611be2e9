-- Writing into a lent list while there is room.
pub mod Over
