-- What is shown, in full statements.
pub mod Promises
-- A field, as it is read and as it stands.
pub mod Fields
-- A header as a machine that reads byte by byte.
pub mod Items
-- What is read is what the machine says.
pub mod Walks
-- A header is read exactly where one stands.
pub mod Headers
-- A header stands in every input that has its bytes: alone, and at the front of others.
pub mod Alone
-- A header fails exactly at the first byte that cannot stand there, or at the end of an input that ends early.
pub mod Wrongs
-- A header with each comment replaced by one white byte has the same numbers.
pub mod Replaced
-- A header with a comment that never ends fails at the input's length.
pub mod Unended
-- A header in which no comment opens is read as document 01 reads it.
pub mod Plain
-- Readings and headers by their cases.
pub mod Cases
