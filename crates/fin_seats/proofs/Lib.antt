pub mod Totals
pub mod Places
pub mod Counts
pub mod Storing
pub mod Gather
pub mod Books
