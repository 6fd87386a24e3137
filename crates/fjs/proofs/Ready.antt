-- What `find` and `find_moves` bring to the search that they share, from a call that is not refused, and what they make of what it found. Assumes nothing.
use mathlib.Core.Path.{◌≡◌, ap, ◌∙◌}
use Prim.Native.Nat.{ℕ, ◌+◌, ◌≤◌}
use native.Mathlib.Omega.{arith}
use mathlib.Core.List.{List}
use lib.ListN.{length, drop}
use borrow.Author.Tests.{eq-eqb}
use Rattle.matching.specs.declared.Tally.{Tally}
use Rattle.matching.specs.Received.{received}
use Rattle.matching.specs.Find.{refusal_of, Found}
use Rattle.matching.proofs.Received.{length-received}
use Rattle.matching.proofs.Occurrences.{occurrences-few}
use Rattle.matching.proofs.Find.{found-refused, found-accepted}
use Rattle.matching.proofs.Progress.{Accepted, compared-fits}
use Rattle.tables.proofs.Tables.{both-received}
use Rattle.letter_tables.specs.BadCharacter.{sunday_entry}
use Rattle.border_tables.specs.Kmp.{kmp_entry}
use Rattle.fjs_steps.specs.Fjs.{fjs, Bounded}
use Rattle.fjs_steps.specs.Scratch.{Ready}
use Rattle.fjs_steps.proofs.Sound.{sound}
use Rattle.fjs_steps.proofs.Bound.{bound}
use Rattle.fjs.specs.Search.{prepared, Searched}

-- the scratch after the tables were made, or not, where the call is refused
module _ {P T scratch scratch' : List ℕ} (left : scratch' ≡ prepared P T scratch) where
  pub made : Accepted fjs P T scratch → scratch' ≡ received scratch (fjs.tables P)
  made a = left ∙ rw (eq-eqb (refusal_of fjs P T scratch) 0 a.none)

  -- the limits are kept and both tables are made
  pub ready : Accepted fjs P T scratch → Ready P T scratch'
  ready a =
      let l = a.limits in
      record {
        some = l.some;
        short = l.short;
        small = l.small;
        room = omega (arith, l.room, ap length (made a), length-received scratch (fjs.tables P));
        rest = drop (fjs.entries (length P)) scratch;
        tables = made a ∙ both-received 256 (length P + 1) (sunday_entry P) (kmp_entry P) scratch l.room;
      }

  -- a find that is refused
  pub found_none : {list : List ℕ} {number : ℕ} → number ≡ refusal_of fjs P T scratch → (number ≡ 0 → ⊥) → Found fjs P T scratch list (record { refusal = number; total = 0; comparisons = 0 }) scratch' list
  found_none {list} {number} is some = let f : Found fjs P T scratch list (record { refusal = number; total = 0; comparisons = 0 }) scratch list = found-refused is some in record { answer = f.answer; left = left; listed = f.listed }

-- a search in a call that is not refused: its numbers fit 32 bits, the find keeps its promise, and demand 3's bound is that of the steps
module _ {P T scratch list list' : List ℕ} {r : Tally} (a : Accepted fjs P T scratch) (s : Searched P T list r list') where
  pub total-fits : r.total ≤ 32769
  total-fits = omega (arith, s.total, occurrences-few P T, a.limits.small)

  pub looks-fit : r.comparisons ≤ 33588225
  looks-fit = let l = a.limits in omega (arith, s.comparisons, compared-fits fjs (sound P T l.some) l.short l.small)

  pub found_all : {scratch' : List ℕ} → scratch' ≡ prepared P T scratch → Found fjs P T scratch list (record { refusal = 0; total = r.total; comparisons = r.comparisons }) scratch' list'
  found_all left = found-accepted a.none s.total s.comparisons (made left a) s.listed

  pub found-bounded : Bounded P T r.comparisons
  found-bounded h = omega (arith, s.comparisons, bound P T a.limits.some h)
