-- Glossary.
--   below k                the place of a key among keys that rise
--   all_below ks i k       the last of the first i keys is below k
--   sixteen_passed ks i k  the last sixteen of the first i keys are there, and none is below k
--   pass_sixteens ks i k   how many of the first i keys are left, passed by sixteens as long as they can be
--   InOrder f n            f never falls along the first n of a list
pub mod Passing
unfoldable pub use Passing.{below, all_below, sixteen_passed, pass_sixteens, InOrder}
