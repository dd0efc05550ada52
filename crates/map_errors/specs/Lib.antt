-- Glossary. Pixel i of a strip has the bytes 3i, 3i + 1, 3i + 2.
--   pixel_at strip i           pixel i, in whole levels
--   Errors                     red, green, blue
--   miss_on, misses_of         squared differences added up, on one channel, on all three
--   plus_errors a b            the errors of two stretches together
--   number_in best i           the number in a packed number
--   found_number which best i  the number found for pixel i
--   Found                      what settling a block asks
pub mod Missing
pub mod Finding
pub use declared.Errors.{Errors}
unfoldable pub use Missing.{pixel_at, miss_on, misses_of, plus_errors}
unfoldable pub use Finding.{number_in, found_number}
pub use Finding.{Found}
