pub mod Parts
pub mod Walks
pub mod Fibres
pub mod Masks
pub mod Shifts
