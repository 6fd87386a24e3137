-- Late cuts (document 02, (xiii)): a phrase's list for the text after a cut comes from its list for the old one. P is the phrase, T the old text; a cut, the new text and the refusals
-- are those of the crate `cuts`.
-- That the old text's list gives the new text's is shown in proofs/NewList.antt (`new-list`); that the fresh places are those that touch the change or its seam, in `fresh-are`;
-- that no place is moved below 0 or past the new text's end, in proofs/Signed.antt (`moved-exact`, `moved_inside`).
use Rattle.std.specs.Prelude.{◌≡◌, ℕ, ◌+◌, ◌-◌, ◌<◌, Bool, cond, List, ◌++◌, map, length, take, drop, eqb, leb, ℤ, pos, nat_abs, ◌+ℤ◌, ◌-ℤ◌}
use Rattle.matching.specs.declared.Answer.{Answer}
use Rattle.matching.specs.Occurrences.{occurrences, Occurs}
use Rattle.matching.specs.Received.{received}
use Rattle.matching.specs.Joined.{those, last_of, moved_up}
use Rattle.cuts.specs.Cuts.{Cut, new_text, relist_refusal}

-- ---- the places of the new list

-- whether a place stays: the phrase, of m letters, ends before the stretch
abbrev pub stays : ℕ → ℕ → ℕ → Bool
stays m start k = leb (k + m) start

-- whether a place moves: it is the stretch's end or after it
abbrev pub moves : ℕ → ℕ → Bool
moves end k = leb end k

-- the signed change of length: the new letters less the stretch's
abbrev pub change : Cut → ℤ
change c = pos (length c.letters) -ℤ pos (c.end - c.start)

-- a place moved by a signed number
abbrev pub moved_by : ℤ → ℕ → ℕ
moved_by z k = nat_abs (pos k +ℤ z)

-- the letters searched afresh: at most m - 1 before the stretch, the new letters, and at most m - 1 after the stretch
abbrev pub around : List ℕ → List ℕ → Cut → List ℕ
around P T c = last_of (length P - 1) (take c.start T) ++ c.letters ++ take (length P - 1) (drop c.end T)

-- the fresh places: where the phrase stands in those letters, counted from the new text's start
abbrev pub fresh : List ℕ → List ℕ → Cut → List ℕ
fresh P T c = moved_up (c.start - (length P - 1)) (occurrences P (around P T c))

-- the places of the new list: those that stay, the fresh ones, those moved
unfoldable pub relisted : List ℕ → List ℕ → List ℕ → Cut → List ℕ
unfolding those occurrences
relisted P T list c = those (stays (length P) c.start) list ++ fresh P T c ++ map (moved_by (change c)) (those (moves c.end) list)

-- what the request asks of a fresh place: the phrase stands there in the new text, and touches the change or its seam: it ends after the stretch's start and starts before the new
-- letters end
pub record Touches (P T : List ℕ) (c : Cut) (k : ℕ) : Type 0 where
  pub occurs : Occurs P (new_text T c) k
  pub ends : c.start < k + length P
  pub starts : k < c.start + length c.letters

-- ---- the call

-- whether the call is not refused
abbrev pub taken : List ℕ → List ℕ → List ℕ → Cut → Bool
taken P T list c = eqb (relist_refusal P T list c) 0

-- a call gave r and left lent' of the lent answer list. Refused: the number and 0, and the answer list as before. Otherwise: the full total, and the answer list received the new
-- list's places by the rule of a lent list
pub record Relisted (P T list : List ℕ) (c : Cut) (lent : List ℕ) (r : Answer) (lent' : List ℕ) : Type 0 where
  pub answer : r ≡ cond (taken P T list c) (record { refusal = 0; number = length (relisted P T list c) }) (record { refusal = relist_refusal P T list c; number = 0 })
  pub listed : lent' ≡ cond (taken P T list c) (received lent (relisted P T list c)) lent
