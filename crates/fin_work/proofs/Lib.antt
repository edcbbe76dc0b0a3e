mod Parts
mod Gaps
mod Masks
mod Following
mod Carrying
mod Running
mod Asking
mod Pieced
pub mod Changing
mod Standing
mod Numbering
mod Looking
mod Known
pub mod Written
mod Coordinates
mod Lived
mod Holding
mod Stepping
mod Turning
mod Soundness
mod Modes
