pub mod Written
pub mod Desk
pub mod PartitionRooms
