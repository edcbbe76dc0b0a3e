pub mod Induction
pub mod Equations
pub mod Literals
pub mod Vanishing
mod Operators
pub mod Staying
pub mod Values
pub mod Makings
mod Simplifying
mod Agreeing
pub mod Judging
pub mod Worth
mod Promises
mod Sides
mod Walking
pub mod Resting
mod Single
mod Rewriting
mod Reading
pub mod Gathering
mod GatheredKinds
mod Writing
mod Lasting
mod Costing
mod Staging
mod Comparing
pub mod Mentions
mod Counting
pub mod Origins
mod Moving
pub mod Loops
pub mod Fresh
pub mod Holding
pub mod GoingOn
mod Extents
mod Singles
pub mod Gaps
mod Matching
