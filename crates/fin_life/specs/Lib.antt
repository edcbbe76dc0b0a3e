pub mod Passage
pub mod Table
pub mod Mentions
pub mod Drafts
pub mod Completing
pub mod Loops
pub mod Tracks
pub mod Trails
