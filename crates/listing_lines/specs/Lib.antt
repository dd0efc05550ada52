-- Glossary. A text is a list of bytes, a line as numbers the list of its fields.
--   Summary                    used, pixels, rounds, settled, total, distances, error: what is told besides the shades
--   most_field                 21, room that a field with the byte behind it never goes past
--   most_line                  room that a line never goes past
--   most_text                  8448, the room of a listing
--   refused_text n             the line of a refusal
--   mapped_to index q          the pixels mapped to shade q
--   head_fields s              line 1
--   shade_fields, shade_rows   a shade's line, and those of the first k shades
--   lines_for s palette index  all lines
--   field_at lines i j         field j of line i, both counted from 0
pub mod Texts
pub use declared.Summary.{Summary}
unfoldable pub use Texts.{
  most_field,
  most_line,
  most_text,
  refused_text,
  mapped_to,
  head_fields,
  shade_fields,
  shade_rows,
  lines_for,
  field_at,
}
