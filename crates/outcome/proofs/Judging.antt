-- Judging cue by cue: the three cases of a cue, what no fault means, and which cue a fault names. Assumes nothing.
use mathlib.Core.Path.{◌≡◌, refl, sym, ap, subst, ◌∙◌}
use Prim.Native.Nat.{ℕ, zero, suc, ◌+◌, ◌-◌, ◌≤◌, ◌<◌}
use native.Mathlib.Omega.{arith}
use mathlib.Core.Bool.{Bool, true, false}
use mathlib.Core.List.{List, [], ◌∷◌, ◌++◌, append_assoc, append-nil}
use lib.ListN.{length, get_or, length-append, get_or-append}
use lib.Seq.{get_or-append_seam}
use lib.Dec.{eqb, ltb}
use borrow.Author.Tests.{eq-eqb, ne_eqb, eqb-true, eqb-false, ltb-true, ltb-false}
use Rattle.matching.specs.Refusals.{first_met}
use Rattle.matching.proofs.CaseAnalysis.{by-test, either, neither}
use Rattle.cues.specs.Cue.{Cue}
use Rattle.line_column.specs.LineColumn.{last_of}
use Rattle.outcome.specs.Outcome.{Numbered, cues_of, is_there, place_of, above, fault_of, place_before, cue_fault, Judged, judge}
use Rattle.outcome.specs.Told.{Rises, AllThere, places_of, Found, Faulted, Another}

-- ---- one place more

-- the last place: that of what follows, or else that before
pub last-after : (start : ℕ) (ps qs : List ℕ) → last_of start (ps ++ qs) ≡ last_of (last_of start ps) qs
unfolding last_of
last-after start [] qs = refl
last-after start (p ∷ ps) qs = last-after p ps qs

pub last_more : (ps : List ℕ) (p : ℕ) → place_before (ps ++ p ∷ []) ≡ p
unfolding last_of
last_more ps p = last-after 0 ps (p ∷ [])

last-at : (start : ℕ) (ps : List ℕ) (i : ℕ) → suc i ≡ length ps → last_of start ps ≡ get_or ps i 0
unfolding last_of
last-at start [] i e = absurd (omega arith)
last-at start (p ∷ []) i e = let first : 0 ≡ i = omega arith in ap (λ (k : ℕ). get_or (p ∷ []) k 0) first
last-at start (p ∷ q ∷ ps) zero e = absurd (omega arith)
last-at start (p ∷ q ∷ ps) (suc i) e = last-at p (q ∷ ps) i (omega arith)

pub rises-none : Rises []
rises-none i j h k = absurd (omega arith)

rises-more : (ps : List ℕ) (p : ℕ) → Rises ps → above (length ps) (place_before ps) p ≡ true → Rises (ps ++ p ∷ [])
rises-more ps p r a i j h k =
    let n : ℕ = length ps in
    let long : length (ps ++ p ∷ []) ≡ n + 1 = length-append ps (p ∷ []) in
    let kept : (m : ℕ) → m < n → get_or (ps ++ p ∷ []) m 0 ≡ get_or ps m 0 = λ m inside. get_or-append ps (p ∷ []) 0 m inside in
    by-test (λ _. get_or (ps ++ p ∷ []) i 0 < get_or (ps ++ p ∷ []) j 0) (ltb j n)
    (λ t. let inside = ltb-true j n t in omega (arith, kept i (omega arith), kept j inside, r i j h inside))
    (λ t.
    let end : j ≡ n = omega (arith, ltb-false j n t) in
    let here : get_or (ps ++ p ∷ []) j 0 ≡ p = ap (λ (m : ℕ). get_or (ps ++ p ∷ []) m 0) end ∙ get_or-append_seam ps p [] 0 in
    let less = ltb-true (place_before ps) p (either (eqb n 0) (ltb (place_before ps) p) a (ne_eqb n 0 (λ z. omega arith))) in
    by-test (λ _. get_or (ps ++ p ∷ []) i 0 < get_or (ps ++ p ∷ []) j 0) (ltb (suc i) n)
    (λ u. let before = ltb-true (suc i) n u in omega (arith, kept i (omega arith), last-at 0 ps (n - 1) (omega arith), r i (n - 1) (omega arith) (omega arith)))
    (λ u. omega (arith, kept i (omega arith), last-at 0 ps i (omega (arith, ltb-false (suc i) n u)))))

-- ---- the three cases of a cue, by what was found before: so many places, and the last of them

pub none-there : (before last place : ℕ) → fault_of false before last place ≡ 12
unfolding fault_of first_met
none-there before last place = refl

pub not-above : (before last place : ℕ) → above before last place ≡ false → fault_of true before last place ≡ 15
unfolding fault_of first_met
not-above before last place e = rw e

pub is-above : (before last place : ℕ) → above before last place ≡ true → fault_of true before last place ≡ 0
unfolding fault_of first_met
is-above before last place e = rw e

module _ (f : ℕ → ℕ) (text : List ℕ) where
  -- whether a cue stands above the last of the places found before it
  abbrev goes_on : List ℕ → Cue → Bool
  goes_on found c = above (length found) (place_before found) (place_of f text c)

  -- the fault of a cue of which it is known whether it is there
  fault-is : (found : List ℕ) (c : Cue) {there : Bool} → is_there f text c ≡ there → cue_fault f text found c ≡ fault_of there (length found) (place_before found) (place_of f text c)
  unfolding cue_fault
  fault-is found c e = ap (λ (t : Bool). fault_of t (length found) (place_before found) (place_of f text c)) e

  fault-missing : (found : List ℕ) (c : Cue) → is_there f text c ≡ false → cue_fault f text found c ≡ 12
  fault-missing found c e = fault-is found c e ∙ none-there (length found) (place_before found) (place_of f text c)

  fault-falling : (found : List ℕ) (c : Cue) → is_there f text c ≡ true → goes_on found c ≡ false → cue_fault f text found c ≡ 15
  fault-falling found c e a = fault-is found c e ∙ not-above (length found) (place_before found) (place_of f text c) a

  fault-none : (found : List ℕ) (c : Cue) → is_there f text c ≡ true → goes_on found c ≡ true → cue_fault f text found c ≡ 0
  fault-none found c e a = fault-is found c e ∙ is-above (length found) (place_before found) (place_of f text c) a

  by-fault : {Q : Type 0} (found : List ℕ) (c : Cue) → (is_there f text c ≡ false → Q) → (is_there f text c ≡ true → goes_on found c ≡ false → Q) → (is_there f text c ≡ true → goes_on found c ≡ true → Q) → Q
  by-fault {Q} found c missing falling on = by-test (λ _. Q) (is_there f text c) (λ e. by-test (λ _. Q) (goes_on found c) (on e) (falling e)) missing

  -- a cue without a fault is found, above the one before it
  passes : (found : List ℕ) (c : Cue) → cue_fault f text found c ≡ 0 → (is_there f text c ≡ true) × (goes_on found c ≡ true)
  passes found c z = by-fault found c (λ m. absurd (omega (arith, fault-missing found c m))) (λ t b. absurd (omega (arith, fault-falling found c t b))) (λ t a. (t, a))

  -- 12 names one that is not there
  pub names-missing : (found : List ℕ) (c : Cue) → cue_fault f text found c ≡ 12 → is_there f text c ≡ false
  names-missing found c e = by-fault found c (λ m. m) (λ t b. absurd (omega (arith, fault-falling found c t b))) (λ t a. absurd (omega (arith, fault-none found c t a)))

  -- 15 one that is, not above the last place before it
  pub names-falling : (found : List ℕ) (c : Cue) → cue_fault f text found c ≡ 15 → (is_there f text c ≡ true) × ((1 ≤ length found) × (place_of f text c ≤ place_before found))
  names-falling found c e =
      by-fault found c (λ m. absurd (omega (arith, fault-missing found c m))) (λ t b. (t, low b)) (λ t a. absurd (omega (arith, fault-none found c t a)))
    where
      low : goes_on found c ≡ false → (1 ≤ length found) × (place_of f text c ≤ place_before found)
      low b =
          let h = neither (eqb (length found) 0) (ltb (place_before found) (place_of f text c)) b in
          let some = eqb-false (length found) 0 h.0 in
          (omega (arith, some), ltb-false (place_before found) (place_of f text c) h.1)

  -- no cue has another fault
  pub two-faults : (found : List ℕ) (c : Cue) → Another (cue_fault f text found c) → ⊥
  two-faults found c o = by-fault found c (λ m. o.not-12 (fault-missing found c m)) (λ t b. o.not-15 (fault-falling found c t b)) (λ t a. o.not-0 (fault-none found c t a))

  -- ---- the next cue

  pub judge-on : (found : List ℕ) (x : Numbered) (xs : List Numbered) → cue_fault f text found x.cue ≡ 0 → judge f text found (x ∷ xs) ≡ judge f text (found ++ place_of f text x.cue ∷ []) xs
  unfolding judge
  judge-on found x xs e = rw (eq-eqb (cue_fault f text found x.cue) 0 e)

  pub judge-stop : (found : List ℕ) (x : Numbered) (xs : List Numbered) → (cue_fault f text found x.cue ≡ 0 → ⊥)
      → judge f text found (x ∷ xs) ≡ record { refusal = cue_fault f text found x.cue; number = x.number; places = found }
  unfolding judge
  judge-stop found x xs some = rw (ne_eqb (cue_fault f text found x.cue) 0 some)

  pub judge-end : (found : List ℕ) → judge f text found [] ≡ record { refusal = 0; number = length found; places = found }
  unfolding judge
  judge-end found = refl

  -- ---- some cues and then the rest, as a walk by groups goes: on from their places where none has a fault, and no further where one has

  module _ (found : List ℕ) (x : Numbered) (xs : List Numbered) where
    abbrev refusal-of : Judged → ℕ
    refusal-of j = j.refusal

    -- a list that gives 0 has no fault at its first cue
    first_passes : (judge f text found (x ∷ xs)).refusal ≡ 0 → cue_fault f text found x.cue ≡ 0
    first_passes e =
        by-test (λ _. cue_fault f text found x.cue ≡ 0) (eqb (cue_fault f text found x.cue) 0)
        (eqb-true (cue_fault f text found x.cue) 0)
        (λ t. let s = eqb-false (cue_fault f text found x.cue) 0 t in absurd (s (sym (ap refusal-of (judge-stop found x xs s)) ∙ e)))

    -- and the others give 0
    others-pass : (z : cue_fault f text found x.cue ≡ 0) → (judge f text found (x ∷ xs)).refusal ≡ 0 → (judge f text (found ++ place_of f text x.cue ∷ []) xs).refusal ≡ 0
    others-pass z e = sym (ap refusal-of (judge-on found x xs z)) ∙ e

  pub judge-then : (found : List ℕ) (g xs : List Numbered) → (judge f text found g).refusal ≡ 0 → judge f text found (g ++ xs) ≡ judge f text (judge f text found g).places xs
  judge-then found [] xs e = ap (λ (j : Judged). judge f text j.places xs) (sym (judge-end found))
  judge-then found (x ∷ g) xs e =
      let z = first_passes found x g e in
      judge-on found x (g ++ xs) z ∙ judge-then (found ++ place_of f text x.cue ∷ []) g xs (others-pass found x g z e) ∙ ap (λ (j : Judged). judge f text j.places xs) (sym (judge-on found x g z))

  pub judge-no-further : (found : List ℕ) (g xs : List Numbered) → ((judge f text found g).refusal ≡ 0 → ⊥) → judge f text found (g ++ xs) ≡ judge f text found g
  judge-no-further found [] xs some = absurd (some (ap (λ (j : Judged). j.refusal) (judge-end found)))
  judge-no-further found (x ∷ g) xs some =
      by-test (λ _. judge f text found (x ∷ g ++ xs) ≡ judge f text found (x ∷ g)) (eqb (cue_fault f text found x.cue) 0)
      (λ t.
      let z = eqb-true (cue_fault f text found x.cue) 0 t in
      let on = judge-on found x g z in
      judge-on found x (g ++ xs) z ∙ judge-no-further (found ++ place_of f text x.cue ∷ []) g xs (λ n. some (ap (λ (j : Judged). j.refusal) on ∙ n)) ∙ sym on)
      (λ t. let s = eqb-false (cue_fault f text found x.cue) 0 t in judge-stop found x (g ++ xs) s ∙ sym (judge-stop found x g s))

  -- ---- no fault, or the first

  pub all_found : (found : List ℕ) (xs : List Numbered) → Rises found → (judge f text found xs).refusal ≡ 0 → Found f text found xs (judge f text found xs)
  unfolding AllThere
  all_found found [] r e = subst (Found f text found []) (sym (judge-end found)) (record { there = tt; number = omega arith; places = sym (append-nil found); rises = r })
  all_found found (x ∷ xs) r e =
      let c : Cue = x.cue in
      let p : ℕ = place_of f text c in
      let z = first_passes found x xs e in
      let here = passes found c z in
      let i = all_found (found ++ p ∷ []) xs (rises-more found p r here.1) (others-pass found x xs z e) in
      subst (Found f text found (x ∷ xs)) (sym (judge-on found x xs z))
      (record { there = (here.0, i.there); number = omega (arith, i.number, length-append found (p ∷ [])); places = i.places ∙ append_assoc found (p ∷ []) (places_of f text (cues_of xs)); rises = i.rises })

  pub one-faulted : (found : List ℕ) (xs : List Numbered) → Rises found → ((judge f text found xs).refusal ≡ 0 → ⊥) → Faulted f text found xs (judge f text found xs)
  unfolding AllThere
  one-faulted found [] r some = absurd (some (ap (λ (j : Judged). j.refusal) (judge-end found)))
  one-faulted found (x ∷ xs) r some =
      let c : Cue = x.cue in
      let p : ℕ = place_of f text c in
      by-test (λ _. Faulted f text found (x ∷ xs) (judge f text found (x ∷ xs))) (eqb (cue_fault f text found c) 0)
      (λ t.
      let z = eqb-true (cue_fault f text found c) 0 t in
      let here = passes found c z in
      let on = judge-on found x xs z in
      let i = one-faulted (found ++ p ∷ []) xs (rises-more found p r here.1) (λ n. some (ap (λ (j : Judged). j.refusal) on ∙ n)) in
      subst (Faulted f text found (x ∷ xs)) (sym on)
      (record {
        before = x ∷ i.before;
        faulty = i.faulty;
        later = i.later;
        all = ap (λ (l : List Numbered). x ∷ l) i.all;
        there = (here.0, i.there);
        number = i.number;
        places = i.places ∙ append_assoc found (p ∷ []) (places_of f text (cues_of i.before));
        rises = i.rises;
        why = i.why;
      }))
      (λ t.
      subst (Faulted f text found (x ∷ xs)) (sym (judge-stop found x xs (eqb-false (cue_fault f text found c) 0 t)))
      (record { before = []; faulty = x; later = xs; all = refl; there = tt; number = refl; places = sym (append-nil found); rises = r; why = refl }))
