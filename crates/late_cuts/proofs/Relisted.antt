-- A call that is not refused: no number in it overflows, and those that stay, the fresh ones and those moved, put one behind another, are the new list. Assumes nothing.
use mathlib.Core.Path.{◌≡◌, ap, ◌∙◌}
use Prim.Native.Nat.{ℕ, ◌+◌, ◌-◌, ◌≤◌, ◌<◌}
use native.Mathlib.Omega.{arith}
use mathlib.Core.List.{List, ◌++◌, map}
use Rattle.std.proofs.lemmas.List.{get_or-drop}
use lib.ListN.{length, get_or, take, drop, length-append, length-map, length-take, length-drop}
use Rattle.matching.specs.Occurrences.{occurrences}
use Rattle.matching.specs.Received.{received, received_from}
use Rattle.matching.specs.Joined.{those, last_of}
use Rattle.matching.proofs.Occurrences.{occurrences-few, member}
use Rattle.matching.proofs.Those.{those-few}
use Rattle.matching.proofs.Parts.{from, from_is}
use Rattle.cuts.specs.Cuts.{Cut}
use Rattle.cuts.proofs.Lists.{rises-few, fit-member}
use Rattle.cuts.proofs.Calls.{Taken, length-new}
use Rattle.late_cuts.specs.LateCuts.{stays, moves, change, moved_by, around, fresh, relisted}
use Rattle.late_cuts.specs.declared.Listing.{Listing}
use Rattle.late_cuts.specs.Asked.{Small, Puts}
use Rattle.late_cuts.proofs.Lists.{moves-later, puts_then}

module _ {P T list : List ℕ} {c : Cut} (k : Taken P T list c) where
  -- the new letters lie within the new text, and the list has no more places than the old one has letters
  pub new-inside : c.start + length c.letters ≤ 32768
  new-inside = omega (arith, length-new T c (omega (arith, k.ordered, k.inside)), k.new)

  pub list-few : length list ≤ 32768
  list-few =
      omega (arith, rises-few 0 (length T) list k.rising (omega arith) (λ j l. omega (arith, fit-member (length P) (length T) list k.fits j l, k.some)), k.small)

  abbrev stay : List ℕ
  stay = those (stays (length P) c.start) list

  pub stay-few : length stay ≤ length list
  stay-few = those-few (stays (length P) c.start) list

  pub fresh-few : length (fresh P T c) ≤ 40000
  fresh-few =
      let side = length P - 1 in
      let before = last_of side (take c.start T) in
      let after = take side (drop c.end T) in
      omega (
        arith,
        length-map (occurrences P (around P T c)) (λ (j : ℕ). j + (c.start - side)),
        occurrences-few P (around P T c),
        length-append (before ++ c.letters) after,
        length-append before c.letters,
        length-drop (length (take c.start T) - side) (take c.start T),
        length-take side (drop c.end T),
        k.short,
        new-inside,
      )

  -- each place of the list from one on is one of the old text
  pub later_small : (n : ℕ) → Small (length (from list n)) (from list n)
  later_small n =
      record {
        small = λ i h.
            let h' : n + i < length list = omega (arith, h, ap length (from_is list n), length-drop n list) in
            rw (from_is list n, get_or-drop n list i 0) (omega (arith, fit-member (length P) (length T) list k.fits (get_or list (n + i) 0) (member list (n + i) h'), k.small));
      }

  -- the totals after each of the three: those that stay, the fresh ones, and those moved of the list from the first that does not stay on
  module _ {lent one : Listing} (none : lent.total ≡ 0) (p : Puts lent stay one) where
    pub one_few : one.total ≤ length list
    one_few = omega (arith, p.total, stay-few)

    module _ {two : Listing} (q : Puts one (fresh P T c) two) where
      pub two_few : two.total ≤ 80000
      two_few = omega (arith, q.total, one_few, list-few, fresh-few)

      module _ {three : Listing} (r : Puts two (map (moved_by (change c)) (those (moves c.end) (from list one.total))) three) where
        pub three_few : three.total ≤ 131072
        three_few =
            omega (arith, r.total, two_few, length-map (those (moves c.end) (from list one.total)) (moved_by (change c)), those-few (moves c.end) (from list one.total), ap length (from_is list one.total), length-drop one.total list, list-few)

        -- and all together they are the new list
        pub all_put : (three.list.now ≡ received lent.list.now (relisted P T list c)) × (three.total ≡ length (relisted P T list c))
        unfolding relisted
        all_put =
            let size : one.total ≡ length stay = omega (arith, p.total) in
            let later : those (moves c.end) (from list one.total) ≡ those (moves c.end) list = rw (from_is list one.total, size) (moves-later (length P) c.start c.end list k.some k.ordered k.rising) in
            let all = puts_then (puts_then p q) (rw later at r) in
            (all.list ∙ ap (λ (n : ℕ). received_from n lent.list.now (stay ++ fresh P T c ++ map (moved_by (change c)) (those (moves c.end) list))) none, omega (arith, all.total))
