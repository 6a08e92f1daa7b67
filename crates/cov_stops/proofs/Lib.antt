pub mod ComingLemmas
pub mod CountLemmas
pub mod LevelLemmas
pub mod ListLemmas
pub mod RoomLemmas
pub mod TableLemmas
pub mod TourLemmas
