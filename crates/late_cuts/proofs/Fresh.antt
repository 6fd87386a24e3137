-- The fresh places: what a find in a part of the new text leaves, and the letters around the stretch in parts. Assumes nothing.
use mathlib.Core.Path.{◌≡◌, refl, sym, ap, ap₂, subst, ◌∙◌}
use Prim.Native.Nat.{ℕ, suc, ◌+◌, ◌-◌, ◌≤◌, ◌<◌, min}
use native.Mathlib.Omega.{arith}
use mathlib.Core.List.{List, [], ◌∷◌, ◌++◌, append-nil, append_assoc, map-append}
use lib.ListN.{length, take, drop, length-append, length-map, length-drop, drop_of_length-le}
use lib.Seq.{length-take-le, take_all, take_at, take-append-le}
use lib.Dec.{leb}
use borrow.Author.Tests.{leb-true, leb-false}
use borrow.Rule.Slice.PartMut.{put_mid, mid_of, Post-is}
use Rattle.matching.specs.declared.Finding.{Finding}
use Rattle.matching.specs.Occurrences.{occurrences}
use Rattle.matching.specs.Received.{received, received_from}
use Rattle.matching.specs.Find.{refusal, Found}
use Rattle.matching.specs.Joined.{last_of, moved_up}
use Rattle.matching.proofs.CaseAnalysis.{by-test}
use Rattle.matching.proofs.Occurrences.{occurrences-below, occurrences-few, occurrences-none}
use Rattle.matching.proofs.Ranges.{moved_none}
use Rattle.matching.proofs.Around.{occurrences-around}
use Rattle.matching.proofs.Parts.{from, from_is, part-is}
use Rattle.matching.proofs.Find.{within, none-refused, found-answer, found-listed}
use Rattle.naive.specs.Naive.{naive}
use Rattle.pieces.specs.Pieces.{joined, put, Laid}
use Rattle.pieces.proofs.Laid.{laid_one, laid_cons, laid-front}
use Rattle.cuts.specs.Cuts.{cut}
use Rattle.late_cuts.specs.LateCuts.{fresh}
use Rattle.late_cuts.specs.declared.Listing.{Listing}
use Rattle.late_cuts.specs.Asked.{Small, Puts}
use Rattle.late_cuts.proofs.Lists.{received-added, received-most, puts_then}

-- ---- a find in a part

-- a find of so many letters that needs no scratch is not refused
pub not_refused : (m n : ℕ) → 1 ≤ m → m ≤ 1024 → n ≤ 32768 → refusal m n 0 0 ≡ 0
not_refused m n some short small = none-refused m n 0 0 (record { some = some; short = short; small = small; room = omega arith })

-- whatever scratch it is lent
pub no-scratch : (m n has : ℕ) → refusal m n 0 0 ≡ 0 → refusal m n has 0 ≡ 0
no-scratch m n has none =
    let w = within m n 0 0 none in
    none-refused m n has 0 (record { some = w.some; short = w.short; small = w.small; room = omega arith })

module _ {P T scratch list : List ℕ} {r : Finding} {scratch' list' : List ℕ} (f : Found naive P T scratch list r scratch' list') (none : refusal (length P) (length T) 0 0 ≡ 0) where
  pub part-total : r.total ≡ length (occurrences P T)
  part-total = ap (λ (x : Finding). x.total) (found-answer f (no-scratch (length P) (length T) (length scratch) none))

  listed : list' ≡ received list (occurrences P T)
  listed = found-listed f (no-scratch (length P) (length T) (length scratch) none)

  -- the places are small enough to be moved
  pub part_small : Small r.total list'
  part_small =
      record {
        small = λ i h. rw listed (received-most 32768 list (occurrences P T) (λ j l. omega (arith, occurrences-below P T j l, (within (length P) (length T) 0 0 none).small)) i (omega (arith, part-total)));
      }

  -- and moved, they are what the list received
  pub part_moved : (place : ℕ) {list'' : List ℕ} → list'' ≡ moved_up place (take r.total list') ++ drop r.total list' → list'' ≡ received list (moved_up place (occurrences P T))
  part_moved place is =
      is ∙ ap₂ (λ (n : ℕ) (l : List ℕ). moved_up place (take n l) ++ drop n l) part-total listed ∙ received-added place list (occurrences P T)

  pub part_total : (place : ℕ) → r.total ≡ length (moved_up place (occurrences P T))
  part_total place = part-total ∙ sym (length-map (occurrences P T) (λ (k : ℕ). k + place))

-- there are no more places than letters, and one
pub puts_few : (place : ℕ) (P T : List ℕ) {a b : Listing} → Puts a (moved_up place (occurrences P T)) b → b.total ≤ a.total + suc (length T)
puts_few place P T p = omega (arith, p.total, length-map (occurrences P T) (λ (k : ℕ). k + place), occurrences-few P T)

-- ---- a list that is lent from an entry on

pub lent-from : (total from : ℕ) (list values : List ℕ) {part : List ℕ} → from ≡ min total (length list) → part ≡ received (mid_of from (length list - from) list) values
    → put_mid from (length list - from) list part ≡ received_from total list values
lent-from total from list values {part} least is =
    let none : drop (length list) list ≡ [] = drop_of_length-le list {i = length list} (omega arith) in
    let rest : put_mid from (length list - from) list part ≡ received_from from list values =
    ap (λ (l : List ℕ). take from list ++ l)
    (ap (λ (l : List ℕ). part ++ l) (Post-is from (length list) list (omega arith) ∙ none) ∙ append-nil part ∙ is ∙ ap (λ (l : List ℕ). received l values) (from_is list from)) in
    by-test (λ _. put_mid from (length list - from) list part ≡ received_from total list values) (leb total (length list))
    (λ t. let h : total ≤ length list = leb-true total (length list) t in let same : from ≡ total = omega arith in rest ∙ ap (λ (n : ℕ). received_from n list values) same)
    (λ t.
    let h : length list < total = leb-false total (length list) t in
    let enough : length list ≤ from = omega arith in
    rest
    ∙ ap₂ (λ (a b : List ℕ). a ++ received b values) (take_all from list enough ∙ sym (take_all total list (omega arith))) (drop_of_length-le list enough ∙ sym (drop_of_length-le list {i = total} (omega arith))))

-- ---- three pieces laid out

-- a buffer that is long enough holds them at its front
pub record Three (before letters after buffer : List ℕ) (size : ℕ) : Type 0 where
  pub inside : size ≡ length (take size buffer)
  pub all : take size buffer ≡ before ++ letters ++ after

pub laid-three : (buffer₀ before letters after : List ℕ) {buffer₁ buffer₂ buffer₃ : List ℕ} {one two three : ℕ} → length before + length letters + length after ≤ length buffer₀
    → Laid buffer₁ one (put buffer₀ 0 before) → Laid buffer₂ two (put buffer₁ one letters) → Laid buffer₃ three (put buffer₂ two after) → Three before letters after buffer₃ three
unfolding joined
laid-three buffer₀ before letters after {buffer₁} {buffer₂} {buffer₃} {one} {two} {three} room l₁ l₂ l₃ =
    let pieces : List (List ℕ) = before ∷ letters ∷ after ∷ [] in
    let together : joined pieces ≡ before ++ letters ++ after = ap (λ (l : List ℕ). before ++ (letters ++ l)) (append-nil after) ∙ sym (append_assoc before letters after) in
    let size : length (joined pieces) ≡ length before + length letters + length after = ap length together ∙ length-append (before ++ letters) after ∙ ap (λ (n : ℕ). n + length after) (length-append before letters) in
    let front = laid-front pieces buffer₀ (omega arith) (laid_cons buffer₀ 0 before (letters ∷ after ∷ []) l₁ (laid_cons buffer₁ one letters (after ∷ []) l₂ (laid_one buffer₂ two after l₃))) in
    let all : take three buffer₃ ≡ joined pieces = ap (λ (l : List ℕ). take three l) front.1 ∙ take_at (joined pieces) (drop (length (joined pieces)) buffer₀) three (sym front.0) in
    record { inside = front.0 ∙ sym (ap length all); all = all ∙ together }

-- ---- places moved up twice

moved_twice : (a b : ℕ) (ks : List ℕ) → moved_up b (moved_up a ks) ≡ moved_up (b + a) ks
moved_twice a b [] = refl
moved_twice a b (k ∷ ks) = ap₂ (λ (j : ℕ) (js : List ℕ). j ∷ js) (together k) (moved_twice a b ks)
  where
    together : (k : ℕ) → k + a + b ≡ k + (b + a)
    together k = omega arith

-- ---- letters that are longer than the phrase, between two sides that are shorter

module _ (P before letters after : List ℕ) (some : 1 ≤ length P) (fore : length before < length P) (aft : length after < length P) (long : length P ≤ length letters) where
  abbrev side : ℕ
  side = length P - 1

  -- the seam before the letters, the letters, the seam after them
  abbrev first : List ℕ
  first = occurrences P (before ++ [] ++ take side letters)

  abbrev last : List ℕ
  last = occurrences P (drop (length letters - side) letters ++ [] ++ after)

  -- the letters and what comes after them
  inner : occurrences P (letters ++ after) ≡ occurrences P letters ++ moved_up (length letters - side) last
  inner =
      let whole : letters ++ [] ++ after ≡ letters ++ after = ap (λ (l : List ℕ). l ++ after) (append-nil letters) in
      let all : take side after ≡ after = take_all side after (omega arith) in
      ap (occurrences P) (sym whole) ∙ occurrences-around P letters [] after some
      ∙ ap₂ (λ (l m : List ℕ). occurrences P letters ++ moved_up (length letters - side) (occurrences P (last_of side letters ++ [] ++ l)) ++ moved_up (length letters + 0) m) all (occurrences-none P after aft)
      ∙ append-nil (occurrences P letters ++ moved_up (length letters - side) last)

  pub long-around : occurrences P (before ++ letters ++ after) ≡ first ++ moved_up (length before) (occurrences P letters) ++ moved_up (length before + (length letters - side)) last
  long-around =
      let whole : before ++ [] ++ (letters ++ after) ≡ before ++ letters ++ after = ap (λ (l : List ℕ). l ++ (letters ++ after)) (append-nil before) ∙ sym (append_assoc before letters after) in
      let front : take side (letters ++ after) ≡ take side letters = take-append-le side letters after (omega arith) in
      let start : length before - side ≡ 0 = omega arith in
      let here : length before + 0 ≡ length before = omega arith in
      ap (occurrences P) (sym whole) ∙ occurrences-around P before [] (letters ++ after) some
      ∙ rw (occurrences-none P before fore, front, start, here, moved_none first, inner)
      (ap (λ (l : List ℕ). first ++ l) (map-append (λ k. k + length before) (occurrences P letters) (moved_up (length letters - side) last)
      ∙ ap (λ (l : List ℕ). moved_up (length before) (occurrences P letters) ++ l) (moved_twice (length letters - side) (length before) last))
      ∙ sym (append_assoc first (moved_up (length before) (occurrences P letters)) _))

  -- three finds, one behind another
  module _ (place : ℕ) where
    abbrev tail : ℕ
    tail = length letters - side

    parts : moved_up place first ++ moved_up (place + length before) (occurrences P letters) ++ moved_up (place + length before + tail) last ≡ moved_up place (occurrences P (before ++ letters ++ after))
    parts =
        let up : ℕ → ℕ = λ k. k + place in
        let there : place + (length before + tail) ≡ place + length before + tail = omega arith in
        sym
        (ap (moved_up place) long-around ∙ map-append up (first ++ moved_up (length before) (occurrences P letters)) (moved_up (length before + tail) last)
        ∙ ap₂ (λ (a b : List ℕ). a ++ b)
        (map-append up first (moved_up (length before) (occurrences P letters)) ∙ ap (λ (l : List ℕ). moved_up place first ++ l) (moved_twice (length before) place (occurrences P letters)))
        (moved_twice (length before + tail) place last ∙ ap (λ (n : ℕ). moved_up n last) there))

    pub three-found : {a b c d : Listing} {fore aft : List ℕ} → fore ≡ before ++ [] ++ take side letters → aft ≡ from letters tail ++ [] ++ after
        → Puts a (moved_up place (occurrences P fore)) b → Puts b (moved_up (place + length before) (occurrences P letters)) c
        → Puts c (moved_up (place + length before + tail) (occurrences P aft)) d → Puts a (moved_up place (occurrences P (before ++ letters ++ after))) d
    three-found {a} {d = d} fore-is aft-is p q r =
        let last-is = aft-is ∙ ap (λ (l : List ℕ). l ++ [] ++ after) (from_is letters tail) in
        subst (λ (l : List ℕ). Puts a l d) parts (puts_then (puts_then (rw fore-is at p) q) (rw last-is at r))

-- ---- the two sides of the stretch

module _ (T : List ℕ) (start end side from to : ℕ) (ordered : start ≤ end) (inside : end ≤ length T) (before : from ≡ start - min side start) (after : to ≡ end + min side (length T - end)) where
  pub side_before : take (start - from) (drop from T) ≡ last_of side (take start T)
  side_before =
      let size : from ≡ length (take start T) - side = omega (arith, length-take-le start T (omega arith)) in
      part-is from start T ∙ ap (λ (n : ℕ). drop n (take start T)) size

  pub side_after : take (to - end) (drop end T) ≡ take side (drop end T)
  side_after =
      by-test (λ _. take (to - end) (drop end T) ≡ take side (drop end T)) (leb side (length T - end))
      (λ t.
      let h : side ≤ length T - end = leb-true side (length T - end) t in
      let all : to - end ≡ side = omega arith in
      ap (λ (n : ℕ). take n (drop end T)) all)
      (λ t.
      let h : length T - end < side = leb-false side (length T - end) t in
      take_all (to - end) (drop end T) (omega (arith, length-drop end T)) ∙ sym (take_all side (drop end T) (omega (arith, length-drop end T))))

  -- the length of the one before it
  pub length_before : length (take (start - from) (drop from T)) ≡ start - from
  length_before = length-take-le (start - from) (drop from T) (omega (arith, length-drop from T))

pub are_fresh : (P T letters : List ℕ) (start end from to : ℕ) → start ≤ end → end ≤ length T → from ≡ start - (length P - 1) → to ≡ min (length T) (end + (length P - 1))
    → fresh P T (cut start end letters) ≡ moved_up from (occurrences P (take (start - from) (drop from T) ++ letters ++ take (to - end) (drop end T)))
are_fresh P T letters start end from to ordered inside before after =
    let side : ℕ = length P - 1 in
    let starts : from ≡ start - min side start = omega arith in
    let ends : to ≡ end + min side (length T - end) = omega arith in
    ap₂ (λ (n : ℕ) (l : List ℕ). moved_up n (occurrences P l)) (sym before)
    (ap₂ (λ (a b : List ℕ). a ++ letters ++ b) (sym (side_before T start end side from to ordered inside starts ends)) (sym (side_after T start end side from to ordered inside starts ends)))
