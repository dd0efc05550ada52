-- Glossary. Numbers of type Float are the logic's binary64 numbers.
--   most_exact                9007199254740992, 2 ^ 53
--   figure error pixels       both converted, then one division
--   zero_figure               zero, without a sign
--   channel_mean              the figure, zero for no pixels
--   mean_figure error pixels  the figure; none, which says "no pixels"
--   Means                     red, green, blue
--   channel_means             the three channel means
--   mean_number, mean_values  what a mean says in document 01's terms
--   NearestTo y e n           y is the binary64 number nearest to e / n
pub mod Figures
pub mod Nearness
pub use declared.Means.{Means}
unfoldable pub use Figures.{
  most_exact,
  figure,
  zero_figure,
  channel_mean,
  mean_figure,
  channel_means,
  mean_number,
  mean_values,
}
pub use Nearness.{NearestTo}
