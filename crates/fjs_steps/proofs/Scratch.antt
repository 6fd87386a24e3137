-- The entries that a search reads of a scratch with both tables at its front, and the limits that it keeps. Assumes nothing.
use Prim.Native.Nat.{ℕ, ◌+◌}
use mathlib.Core.List.{List}
use lib.ListN.{length}
use Rattle.matching.proofs.Find.{Within}
use Rattle.tables.specs.Tables.{Entries}
use Rattle.tables.proofs.Tables.{first-entries, second-entries}
use Rattle.letter_tables.specs.BadCharacter.{sunday_entry}
use Rattle.border_tables.specs.Kmp.{kmp_entry}
use Rattle.fjs_steps.specs.Fjs.{fjs}
use Rattle.fjs_steps.specs.Scratch.{Ready}

module _ {P T scratch : List ℕ} (r : Ready P T scratch) where
  pub sundays : Entries 0 256 (sunday_entry P) scratch
  sundays = first-entries 256 (length P + 1) (sunday_entry P) (kmp_entry P) r.rest r.tables

  pub kmps : Entries 256 (length P + 1) (kmp_entry P) scratch
  kmps = second-entries 256 (length P + 1) (sunday_entry P) (kmp_entry P) r.rest r.tables

  pub limits : Within (length P) (length T) (length scratch) (fjs.entries (length P))
  limits = record { some = r.some; short = r.short; small = r.small; room = r.room }
