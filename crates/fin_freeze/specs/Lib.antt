pub mod Thawing
