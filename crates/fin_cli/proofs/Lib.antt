pub mod Answered
pub mod Comings
pub mod Endings
pub mod Jobs
pub mod OneDue
pub mod Promised
pub mod Room
pub mod Serving
