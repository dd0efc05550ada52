-- Glossary. A slot is where equal pixels of a block share one key.
--   most_slots                 1024, the most pixels of a block
--   pixel_key strip i          the key of pixel i
--   slot_key keys q            the key at slot q
--   slot_of which i            the slot of pixel i
--   levels_of keys which i     the colour at the slot of pixel i, in whole levels
--   Gathered f n keys which m  the keys f 0 .. f (n - 1) are at their slots, m in all
--   Takes keys m key h         a key takes slot h: one of m where it stands (`there`), or the `next`
pub mod Gathering
unfoldable pub use Gathering.{
  most_slots,
  pixel_key,
  slot_key,
  slot_of,
  levels_of,
}
pub use Gathering.{Gathered, Takes, there, next}
