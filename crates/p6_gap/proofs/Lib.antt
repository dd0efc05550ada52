-- What is shown, in full statements.
pub mod Promises
-- Laws of single bytes.
pub mod Bytes
-- One white byte or comment: where it ends.
pub mod Ends
-- So many in a row, and where all of them end.
pub mod Gaps
-- They stand in every input that has their bytes.
pub mod Same
-- Comments replaced by one byte each, place by place.
pub mod Replacing
