-- Glossary. An input is a list of bytes; a language says of each list of bytes whether it is a word.
--
-- Bytes and numbers
--   byte_at input at            the byte at a place, 0 past the end
--   blank, tab, carriage_return, line_feed, digit_zero, digit_nine  bytes by name
--   is_digit byte               a decimal digit
--   span_at kind most input at  how many bytes from `at` on are of one kind, at most so many
--   AllOf, Digits               so many bytes from `at` on are of one kind, are digits
--   decimal count byte          the value of so many digits
--   most_digits                 5, the most digits of a number that is read
--   digits_at input at          the digits from `at` on, at most five
--   Numeral                     a number that was read: its value, and where it ended
--   Reading                     Ok of a Numeral, or Err of the place it failed
--   number_with value next      the reading of a number with this value, which ended there
--   number_at input at          the reading of the number from `at` on
--   place_in reading            where a reading ended or failed
--   most_decimal                20, the most bytes of a number of 64 bits
--   digit_byte digit            the byte of a digit
--   short_text most n           the decimal text of a number of at most so many digits
--   decimal_text n              that of a number of 64 bits
--
-- Languages
--   Begins language front     some word begins with these bytes
--   FirstWrong language input at  place `at` has the first byte that cannot stand there, or is an early end
--   Fronts language           the language of inputs that begin with a word
--   GoesOn language input at  some word has the bytes before place `at`, and goes on
--   JoinedWords first second  the language of a word of the first and then one of the second
--
-- Machines: `step` leads from a state and a byte to a state or to none, `accepts` says where the input may end
--   later, further              a wrong place one byte later; what is said by the state after the first byte
--   judge step accepts state input  what is said from a state on: none of a word, else the wrong place
--   Accepts step accepts state  the language of the machine from a state on
--   Completes step accepts state  some bytes lead from a state on to an accepting one
--   front_step step accepts     the steps of the machine that stops where it first accepts
--   counted_from, wrong_from    a place counted from another; the wrong place, from a place of the input on
--
-- Machines of items: a state is the list of items to come, `after` says what comes instead of one after a byte
--   before, step_items after  items before others; the steps of the machine
--   nothing_left              no item is to come
--   judge_items, judge_front  what is said of an input of these items, and of one that begins with them
pub mod Bytes
pub mod Spans
pub mod Decimals
pub mod Numbers
pub mod Languages
pub mod Machines
pub mod Items
pub use declared.Numeral.{Numeral}
unfoldable pub use Bytes.{
  byte_at,
  blank,
  tab,
  carriage_return,
  line_feed,
  digit_zero,
  digit_nine,
  is_digit,
}
unfoldable pub use Spans.{span_at, AllOf}
unfoldable pub use Decimals.{decimal, most_decimal, digit_byte, short_text, decimal_text}
unfoldable pub use Numbers.{most_digits, digits_at, Digits, Reading, number_with, number_at, place_in}
pub use Languages.{Begins, FirstWrong, Fronts, GoesOn, JoinedWords}
unfoldable pub use Machines.{later, further, judge, Accepts, front_step, counted_from, wrong_from}
pub use Machines.{Completes}
unfoldable pub use Items.{before, step_items, nothing_left, judge_items, judge_front}
