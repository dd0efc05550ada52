-- Points laid out in three lists, a coordinate each.
pub mod Layouts
