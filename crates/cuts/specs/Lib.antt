-- What a reader of the refusals of a late cut must believe: the new text, what a list must be, and the tests in their order.
pub mod Cuts
