-- What is shown, in full statements.
pub mod Promises
-- A refusal's number tells which refusal it is.
pub mod Numbers
-- What `first_of` answers, from what its rows say.
pub mod Order
-- The outcome of a call that refuses by an order.
pub mod Outcomes
-- The outcome of a call that refuses by an order, by the refusal itself.
pub mod By
