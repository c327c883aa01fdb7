-- The definitions that the contracts of this crate cite: the rules, the image, the public calls, and what stands in scratch
-- in between; and what is claimed of them.
pub mod Rules
pub mod Image
pub mod Calls
pub mod Making
pub mod Posted
pub mod Reading
pub mod Tables
pub mod ReadBack
pub mod Promises
pub mod Demand
pub mod KnownSums
