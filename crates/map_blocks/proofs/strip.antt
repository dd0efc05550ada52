-- Block after block, the pixels of a strip are mapped.
pub mod Blocks
