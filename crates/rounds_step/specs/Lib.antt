-- Glossary.
--   Steppable  what a plain round asks; Walkable what a shortened one asks
--   StepMeets  what a round leaves and answers, with the distances as a parameter
pub mod Meeting
pub use Meeting.{Steppable, Walkable, StepMeets}
