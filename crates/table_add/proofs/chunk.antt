-- The pixels of a chunk as a sorted list of streaks, and the slices with them.
pub mod Listing
