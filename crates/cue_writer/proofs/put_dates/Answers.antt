-- No piece where the cue plays always, and otherwise the field of its two days, each of which fits into two bytes. Assumes nothing.
use Rattle.std.proofs.Common.{◌≡◌, ◌≤◌, ℕ, sym, ap, ◌∙◌, arith}
use Rattle.pieces.proofs.Laid.{laid_none}
use Rattle.calendar.proofs.Days.{days-passed}
use Rattle.cues.specs.declared.Days.{Days}
use Rattle.cues.specs.declared.Days.TheVariants.{Within}
use Rattle.cues.specs.Cue.{dates_refusal}
use Rattle.cue_writer.proofs.Writing.{be-two}
use Rattle.cue_writer.proofs.put_dates.Goals as goal

record Small (first last : ℕ) : Type 0 where
  first-small : first ≤ 65535
  last-small : last ≤ 65535

small : {d : Days} {first last : ℕ} → d ≡ Within first last → dates_refusal d ≡ 0 → Small first last
small {d} {first} {last} e z = let o = days-passed first last (ap dates_refusal (sym e) ∙ z) in record { first-small = omega arith; last-small = omega arith }

pub returns-in_default : goal.returns-in_default
returns-in_default c = rw c.in_default.is (laid_none _ _)

pub overflow_cast-first : goal.overflow_cast-first
overflow_cast-first c = let s = small c.in-Within.is c.requires in omega arith

pub overflow_cast-last : goal.overflow_cast-last
overflow_cast-last c = let s = small c.in-Within.is c.requires in omega arith

pub returns : goal.returns
returns c =
    let s = small c.in-Within.is c.requires in
    let first = c.to_be_bytes.ensures ∙ be-two c.in-Within.first s.first-small in
    let last = c.to_be_bytes-2.ensures ∙ be-two c.in-Within.last s.last-small in
    rw c.in-Within.is (rw (first, last) at c.put_field.ensures)
