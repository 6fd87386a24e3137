-- The entries of a group, put cue by cue up to the first one with a fault. Assumes nothing.
use mathlib.Core.Path.{◌≡◌, refl, sym, ap, ap₂, ◌∙◌}
use Prim.Native.Nat.{ℕ, suc, ◌+◌, ◌*◌, ◌≤◌, ◌<◌}
use native.Mathlib.Omega.{arith}
use mathlib.Core.Bool.{cond}
use mathlib.Core.List.{List, [], ◌∷◌}
use lib.ListN.{length, get_or, drop, set, length-drop}
use lib.Seq.{drop-cons}
use lib.Dec.{eqb}
use borrow.Author.Tests.{eq-eqb, ne_eqb, eqb-false}
use Rattle.matching.specs.Received.{received_from}
use Rattle.matching.proofs.CaseAnalysis.{by-test}
use Rattle.matching.proofs.Find.{number-some}
use Rattle.line_column.specs.declared.LineColumn.{LineColumn}
use Rattle.matching.proofs.Received.{received-over, received-one}
use Rattle.matching.specs.declared.refusal.Refusal.{Refusal}
use Rattle.matching.specs.Results.{number_of}
use Rattle.line_column.specs.LineColumn.{last_of, line_column}
use Rattle.outcome.specs.Outcome.{fault_of, entries_of}
use Rattle.resolver.specs.Walking.{Passing, passing, PutAll, PutSome}

-- three values more
three-more : (at b c d : ℕ) (list : List ℕ) (x y z : ℕ) (values : List ℕ) → b ≡ suc at → c ≡ suc (suc at) → d ≡ suc (suc (suc at))
    → received_from at list (x ∷ y ∷ z ∷ values) ≡ received_from d (set (set (set list at x) b y) c z) values
three-more at b c d list x y z values e f g =
    received-one at list x (y ∷ z ∷ values) ∙ received-one (suc at) (set list at x) y (z ∷ values) ∙ received-one (suc (suc at)) (set (set list at x) (suc at) y) z values
    ∙ ap₂ (λ (i j : ℕ). received_from (suc (suc (suc at))) (set (set (set list at x) i y) j z) values) (sym e) (sym f)
    ∙ ap (λ (i : ℕ). received_from i (set (set (set list at x) b y) c z) values) (sym g)

-- ---- the places before the first fault, by the cases of a cue

passing-on : (before last l p : ℕ) (left places : List ℕ) → fault_of (eqb l 0) before last p ≡ 0
    → passing before last (l ∷ left) (p ∷ places) ≡ record { refusal = (passing (suc before) p left places).refusal; places = p ∷ (passing (suc before) p left places).places }
unfolding passing
passing-on before last l p left places e = rw (eq-eqb (fault_of (eqb l 0) before last p) 0 e)

passing-stop : (before last l p : ℕ) (left places : List ℕ) → (fault_of (eqb l 0) before last p ≡ 0 → ⊥)
    → passing before last (l ∷ left) (p ∷ places) ≡ record { refusal = fault_of (eqb l 0) before last p; places = [] }
unfolding passing
passing-stop before last l p left places e = rw (ne_eqb (fault_of (eqb l 0) before last p) 0 e)

-- ---- along the group: what is still to be put makes the entries, the fault and the last place what they are to be

-- those from one on
abbrev ahead : ℕ → List ℕ → List ℕ → ℕ → ℕ → Passing
ahead index left places count last = passing (index + count) last (drop count left) (drop count places)

pub record Puts (text : List ℕ) (index : ℕ) (left places : List ℕ) (known : ℕ) (entries₀ : List ℕ) (count last : ℕ) (entries : List ℕ) : Type 0 where
  pub goal : received_from (3 * (index + count)) entries (entries_of text (ahead index left places count last).places) ≡ received_from (3 * index) entries₀ (entries_of text (passing index known left places).places)
  pub refused : (ahead index left places count last).refusal ≡ (passing index known left places).refusal
  pub counted : count + length (ahead index left places count last).places ≡ length (passing index known left places).places
  pub at : last_of last (ahead index left places count last).places ≡ last_of known (passing index known left places).places
  pub inside : count ≤ length left

pub puts_none : (text : List ℕ) (index : ℕ) (left places : List ℕ) (known : ℕ) (entries : List ℕ) → Puts text index left places known entries 0 known entries
puts_none text index left places known entries =
    let same : index + 0 ≡ index = omega arith in
    let e : ahead index left places 0 known ≡ passing index known left places = ap (λ (i : ℕ). passing i known left places) same in
    record {
      goal = ap₂ (λ (i : ℕ) (s : Passing). received_from (3 * i) entries (entries_of text s.places)) same e;
      refused = ap (λ (s : Passing). s.refusal) e;
      counted = omega (arith, ap (λ (s : Passing). length s.places) e);
      at = ap (λ (s : Passing). last_of known s.places) e;
      inside = omega arith;
    }

module _ {text : List ℕ} {index : ℕ} {left places : List ℕ} {known : ℕ} {entries₀ : List ℕ} {count last : ℕ} {entries : List ℕ} (p : Puts text index left places known entries₀ count last entries) where
  abbrev rest_of : Passing
  rest_of = ahead index left places count last

  -- nothing more is put
  nothing_more : {refusal : ℕ} → rest_of ≡ record { refusal = refusal; places = [] } → entries ≡ received_from (3 * index) entries₀ (entries_of text (passing index known left places).places)
  unfolding entries_of
  nothing_more none = sym (received-over (3 * (index + count)) entries) ∙ ap (λ (s : Passing). received_from (3 * (index + count)) entries (entries_of text s.places)) (sym none) ∙ p.goal

  -- the group ends
  pub puts-end : length left ≤ count → {at : LineColumn} → at ≡ line_column text last → PutAll text index left places known entries₀ (record { place = last; at = at }) entries
  unfolding passing last_of
  puts-end h told =
      let none = empty (drop count left) (omega (arith, h, length-drop count left)) in
      record {
        none = sym p.refused ∙ ap (λ (s : Passing). s.refusal) none;
        entered = nothing_more none;
        last = ap (λ (s : Passing). last_of last s.places) (sym none) ∙ p.at;
        spot = told;
      }
    where
      empty : (l : List ℕ) → length l ≡ 0 → passing (index + count) last l (drop count places) ≡ record { refusal = 0; places = [] }
      empty [] e = refl
      empty (x ∷ l) e = absurd (omega arith)

  module _ (h : count < length left) (even : length left ≡ length places) where
    abbrev l : ℕ
    l = get_or left count 0

    abbrev q : ℕ
    q = get_or places count 0

    here : rest_of ≡ passing (index + count) last (l ∷ drop (suc count) left) (q ∷ drop (suc count) places)
    here = ap₂ (passing (index + count) last) (drop-cons left count 0 h) (drop-cons places count 0 (omega (arith, h, even)))

    -- a cue with a fault
    pub puts-stop : {refusal : Refusal} {number : ℕ} {numbers : List ℕ} → number_of refusal ≡ fault_of (eqb l 0) (index + count) last q → number ≡ get_or numbers count 0
        → PutSome text index left places numbers known entries₀ (record { refusal = refusal; number = number }) entries
    puts-stop {refusal} {number} {numbers} e named =
        let none = here ∙ passing-stop (index + count) last l q (drop (suc count) left) (drop (suc count) places) (λ z. omega (arith, e, z, number-some refusal)) in
        record {
          refused = e ∙ sym (ap (λ (s : Passing). s.refusal) none) ∙ p.refused;
          number = named ∙ ap (λ (k : ℕ). get_or numbers k 0) (omega (arith, p.counted, ap (λ (s : Passing). length s.places) none));
          entered = nothing_more none;
        }

    -- one without
    pub puts-next : {entries' : List ℕ} → fault_of (eqb l 0) (index + count) last q ≡ 0
        → let i = 3 * (index + count) in entries' ≡ set (set (set entries i q) (i + 1) (line_column text q).line) (i + 2) (line_column text q).column
        → Puts text index left places known entries₀ (count + 1) q entries'
    unfolding entries_of
    puts-next {entries'} e put =
        let i : ℕ = 3 * (index + count) in
        let next : suc count ≡ count + 1 = omega arith in
        let rest : Passing = passing (suc (index + count)) q (drop (suc count) left) (drop (suc count) places) in
        let now : rest_of ≡ record { refusal = rest.refusal; places = q ∷ rest.places } = here ∙ passing-on (index + count) last l q (drop (suc count) left) (drop (suc count) places) e in
        let one : index + (count + 1) ≡ suc (index + count) = omega arith in
        let same : ahead index left places (count + 1) q ≡ rest = ap₂ (λ (n k : ℕ). passing n q (drop k left) (drop k places)) one (sym next) in
        record {
          goal =
              ap₂ (λ (es : List ℕ) (s : Passing). received_from (3 * (index + (count + 1))) es (entries_of text s.places)) put same
              ∙ sym (three-more i (i + 1) (i + 2) (3 * (index + (count + 1))) entries q (line_column text q).line (line_column text q).column (entries_of text rest.places) (omega arith) (omega arith) (omega arith))
              ∙ ap (λ (s : Passing). received_from i entries (entries_of text s.places)) (sym now)
              ∙ p.goal;
          refused = ap (λ (s : Passing). s.refusal) same ∙ sym (ap (λ (s : Passing). s.refusal) now) ∙ p.refused;
          counted = omega (arith, p.counted, ap (λ (s : Passing). length s.places) now, ap (λ (s : Passing). length s.places) same);
          at = ap (λ (s : Passing). last_of q s.places) same ∙ ap (λ (s : Passing). last_of last s.places) (sym now) ∙ p.at;
          inside = omega (arith, h);
        }

-- ---- how many pass: all, or fewer than all

pub passing-count : (before last : ℕ) (left places : List ℕ) → length left ≡ length places → let s = passing before last left places in
    (s.refusal ≡ 0 → length s.places ≡ length left) × ((s.refusal ≡ 0 → ⊥) → length s.places < length left)
unfolding passing
passing-count before last [] places e = (λ z. refl, λ some. absurd (some refl))
passing-count before last (l ∷ left) [] e = absurd (omega arith)
passing-count before last (l ∷ left) (p ∷ places) e =
    let rest = passing-count (suc before) p left places (omega arith) in
    let fault : ℕ = fault_of (eqb l 0) before last p in
    by-test
    (λ t. let s : Passing = cond t (record { refusal = (passing (suc before) p left places).refusal; places = p ∷ (passing (suc before) p left places).places }) (record { refusal = fault; places = [] }) in
    (s.refusal ≡ 0 → length s.places ≡ suc (length left)) × ((s.refusal ≡ 0 → ⊥) → length s.places < suc (length left)))
    (eqb fault 0)
    (λ _. (λ z. omega (arith, rest.0 z), λ some. omega (arith, rest.1 some)))
    (λ t. (λ z. absurd (eqb-false fault 0 t z), λ some. omega arith))
