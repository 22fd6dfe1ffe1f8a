-- Laws.
pub mod Element
pub mod InPlace
pub mod Placed
pub mod Record
pub mod Resting
pub mod Shifted
pub mod Cut
