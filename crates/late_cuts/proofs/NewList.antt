-- The theorem of late cuts: given the old text's list, the answer is the new text's list (`new-list`; `new-list-given` and `as-found` for every call), for a phrase of at least one letter
-- and texts of any lengths; the fresh places are those of the new text that touch the change or its seam (`fresh-are`). Assumes nothing.
use mathlib.Core.Path.{◌≡◌, refl, sym, ap, ap₂, subst, ◌∙◌}
use Prim.Native.Nat.{ℕ, ◌+◌, ◌-◌, ◌≤◌}
use native.Mathlib.Omega.{arith}
use mathlib.Core.Bool.{Bool}
use mathlib.Core.List.{List, [], ◌∷◌, ◌++◌, map, Memᴰ}
use lib.ListN.{length, take, drop, length-drop, take-append-drop}
use lib.Seq.{length-take-le, take-take}
use borrow.Author.Tests.{le-leb, lt-leb}
use Rattle.matching.specs.declared.Answer.{Answer}
use Rattle.matching.specs.declared.Finding.{Finding}
use Rattle.matching.specs.Occurrences.{occurrences}
use Rattle.matching.specs.Received.{received}
use Rattle.matching.specs.Find.{Engine, Found}
use Rattle.matching.specs.Joined.{those, last_of, moved_up}
use Rattle.matching.proofs.Occurrences.{occurrences-are}
use Rattle.matching.proofs.Those.{those-sound, those-complete}
use Rattle.matching.proofs.Around.{touches, touches-both, touches-is, occurrences-around, those-before, those-after, those-touching}
use Rattle.matching.proofs.Find.{found_none, found-answer, found-listed}
use Rattle.cuts.specs.Cuts.{Cut, new_text, relist_refusal}
use Rattle.cuts.proofs.Calls.{taken}
use Rattle.late_cuts.specs.LateCuts.{stays, moves, change, moved_by, fresh, relisted, Touches, Relisted}
use Rattle.late_cuts.proofs.Signed.{moved-is}
use Rattle.late_cuts.proofs.Calls.{relisted-none, relisted-answer, relisted-listed}

-- ---- the old text, the new one, and their lists in parts

module _ (P T : List ℕ) (c : Cut) (some : 1 ≤ length P) (ordered : c.start ≤ c.end) (inside : c.end ≤ length T) where
  -- what stands before the stretch, the stretch, and what stands after it
  abbrev before : List ℕ
  before = take c.start T

  abbrev stretch : List ℕ
  stretch = drop c.start (take c.end T)

  abbrev after : List ℕ
  after = drop c.end T

  old-is : T ≡ before ++ stretch ++ after
  old-is =
      sym
      (ap (λ (l : List ℕ). l ++ stretch ++ after) (sym (take-take c.start c.end T ordered)) ∙ ap (λ (l : List ℕ). l ++ after) (take-append-drop c.start (take c.end T))
      ∙ take-append-drop c.end T)

  before-size : length before ≡ c.start
  before-size = length-take-le c.start T (omega arith)

  old-size : length before + length stretch ≡ c.end
  old-size = omega (arith, before-size, length-drop c.start (take c.end T), length-take-le c.end T inside)

  new-size : length before + length c.letters ≡ c.start + length c.letters
  new-size = ap (λ (n : ℕ). n + length c.letters) before-size

  -- the places in what stands before the stretch and in what stands after it
  abbrev first : List ℕ
  first = occurrences P before

  abbrev last : List ℕ
  last = moved_up (length before + length stretch) (occurrences P after)

  -- those of the old list that stay are those before it
  stay-is : those (stays (length P) c.start) (occurrences P T) ≡ first
  stay-is =
      ap (λ (l : List ℕ). those (stays (length P) c.start) (occurrences P l)) old-is
      ∙ those-before P before stretch after some (stays (length P) c.start) (λ k h. le-leb (k + length P) c.start (omega (arith, h, before-size))) (λ k h. lt-leb (k + length P) c.start (omega (arith, h, before-size)))

  -- and those that move are those after it
  move-is : those (moves c.end) (occurrences P T) ≡ last
  move-is =
      ap (λ (l : List ℕ). those (moves c.end) (occurrences P l)) old-is
      ∙ those-after P before stretch after some (moves c.end) (λ k h. lt-leb c.end k (omega (arith, h, old-size))) (λ k h. le-leb c.end k (omega (arith, h, old-size)))

  -- moved by the signed change, these are the last ones of the new text
  shifted : (ks : List ℕ) → map (moved_by (change c)) (moved_up (length before + length stretch) ks) ≡ moved_up (length before + length c.letters) ks
  shifted [] = refl
  shifted (k ∷ ks) = ap₂ (λ (j : ℕ) (js : List ℕ). j ∷ js) here (shifted ks)
    where
      here : moved_by (change c) (k + (length before + length stretch)) ≡ k + (length before + length c.letters)
      here = omega (arith, moved-is T c (k + (length before + length stretch)) ordered (omega (arith, old-size)), old-size, new-size)

  -- the new text's list
  fresh-is : fresh P T c ≡ moved_up (length before - (length P - 1)) (occurrences P (last_of (length P - 1) before ++ c.letters ++ take (length P - 1) after))
  fresh-is = ap (λ (n : ℕ). moved_up (n - (length P - 1)) (occurrences P (last_of (length P - 1) before ++ c.letters ++ take (length P - 1) after))) (sym before-size)

  new-parts : occurrences P (new_text T c) ≡ first ++ fresh P T c ++ moved_up (length before + length c.letters) (occurrences P after)
  new-parts = occurrences-around P before c.letters after some ∙ ap (λ (l : List ℕ). first ++ l ++ moved_up (length before + length c.letters) (occurrences P after)) (sym fresh-is)

  pub new-list : relisted P T (occurrences P T) c ≡ occurrences P (new_text T c)
  unfolding relisted
  new-list = rw (stay-is, move-is, shifted (occurrences P after)) (sym new-parts)

  -- the fresh places are those of the new text that touch the change or its seam
  pub fresh-are : (k : ℕ) → (Memᴰ k (fresh P T c) → Touches P T c k) × (Touches P T c k → Memᴰ k (fresh P T c))
  fresh-are k =
      let m = length P in
      let stop = length before + length c.letters in
      let test : ℕ → Bool = touches (length before) stop m in
      let all : List ℕ = occurrences P (new_text T c) in
      let those-fresh : those test all ≡ fresh P T c = those-touching P before c.letters after some ∙ sym fresh-is in (
        λ l.
            let r = those-sound test all k (subst (Memᴰ k) (sym those-fresh) l) in
            let p = touches-both (length before) stop m k r.1 in
            record { occurs = (occurrences-are P (new_text T c) k).0 r.0; ends = omega (arith, p.1, before-size); starts = omega (arith, p.0, new-size) },
        λ t.
            subst (Memᴰ k) those-fresh
            (those-complete test all k ((occurrences-are P (new_text T c) k).1 t.occurs) (touches-is (length before) stop m k (omega (arith, t.starts, new-size)) (omega (arith, t.ends, before-size)))),
      )

-- ---- every call that is given the old text's list

module _ {P T list : List ℕ} {c : Cut} {lent : List ℕ} {r : Answer} {lent' : List ℕ} (made : Relisted P T list c lent r lent') (old : list ≡ occurrences P T) (z : r.refusal ≡ 0) where
  none : relist_refusal P T list c ≡ 0
  none = relisted-none made z

  is-new : relisted P T list c ≡ occurrences P (new_text T c)
  is-new = let k = taken P T list c refl none in ap (λ (l : List ℕ). relisted P T l c) old ∙ new-list P T c k.some k.ordered k.inside

  -- it gives the new text's total, and its answer receives the new text's list
  pub new-list-given : (r.number ≡ length (occurrences P (new_text T c))) × (lent' ≡ received lent (occurrences P (new_text T c)))
  new-list-given = (ap (λ (a : Answer). a.number) (relisted-answer made none) ∙ ap length is-new, relisted-listed made none ∙ ap (received lent) is-new)

  -- which is what a find in the new text by any engine gives and leaves
  pub as-found : {e : Engine} {scratch : List ℕ} {f : Finding} {scratch' lent'' : List ℕ} → Found e P (new_text T c) scratch lent f scratch' lent'' → f.refusal ≡ 0
      → (r.number ≡ f.total) × (lent' ≡ lent'')
  as-found found y =
      let met = found_none found y in
      (new-list-given.0 ∙ sym (ap (λ (x : Finding). x.total) (found-answer found met)), new-list-given.1 ∙ sym (found-listed found met))
