-- Placing and writing: the occurrence that a cue names, the entries of each cue, and a text folded beforehand, for any fold that changes nothing the second time. Assumes nothing.
use mathlib.Core.Path.{◌≡◌, refl, sym, ap, ap₂, ◌∙◌}
use Prim.Native.Nat.{ℕ, zero, suc, ◌+◌, ◌-◌, ◌*◌, ◌≤◌}
use native.Mathlib.Omega.{arith}
use mathlib.Core.Bool.{true, cond}
use mathlib.Core.List.{List, [], ◌∷◌, ◌++◌, map}
use lib.ListN.{length, get_or, take, drop, length-append, length-drop, length-map}
use lib.Seq.{drop-append-le, take-append-le}
use lib.Dec.{eqb, leb}
use borrow.Author.Tests.{leb-true}
use Rattle.matching.specs.Occurrences.{occurrences, has_nth}
use Rattle.matching.specs.Received.{received}
use Rattle.matching.proofs.CaseAnalysis.{both}
use Rattle.matching.proofs.Received.{received-front}
use Rattle.matching.proofs.Occurrences.{member, occurrences-are, occurrences-rise}
use Rattle.cues.specs.Cue.{Cue}
use Rattle.line_column.specs.declared.LineColumn.{LineColumn}
use Rattle.line_column.specs.LineColumn.{line_column}
use Rattle.outcome.specs.Outcome.{Numbered, cues_of, cue_occurrences, is_there, place_of, fault_of, place_before, cue_fault, Judged, judge, entries_of, groups, judged_of, reads_of, resolution}
use Rattle.outcome.specs.Told.{Idempotent, KeepsLines, AllThere, places_of, CameOut, Named}

-- ---- the occurrence that a cue names

pub cue-names : (f : ℕ → ℕ) (text : List ℕ) (c : Cue) → is_there f text c ≡ true → Named f text c (place_of f text c)
unfolding cue_occurrences
cue-names f text c e =
    let P : List ℕ = map f c.phrase in
    let T : List ℕ = map f text in
    let o : ℕ = c.ordinal in
    let b = both (leb 1 o) (leb o (length (occurrences P T))) e in
    let some = leb-true 1 o b.0 in
    let most = leb-true o (length (occurrences P T)) b.1 in
    record {
      stands = (occurrences-are P T (get_or (occurrences P T) (o - 1) 0)).0 (member (occurrences P T) (o - 1) (omega arith));
      earlier = λ i h. occurrences-rise P T i (o - 1) (omega arith) (omega arith);
      later = λ i h k. occurrences-rise P T (o - 1) i (omega arith) k;
    }

-- ---- the entries

pub entries-count : (text places : List ℕ) → length (entries_of text places) ≡ 3 * length places
unfolding entries_of
entries-count text [] = refl
entries-count text (p ∷ ps) = omega (arith, entries-count text ps)

pub entries-then : (text places more : List ℕ) → entries_of text (places ++ more) ≡ entries_of text places ++ entries_of text more
unfolding entries_of
entries-then text [] more = refl
entries-then text (p ∷ places) more = ap (λ (l : List ℕ). p ∷ (line_column text p).line ∷ (line_column text p).column ∷ l) (entries-then text places more)

-- the first of a place's three is the place
pub entries-place : (text places : List ℕ) (index : ℕ) → get_or (entries_of text places) (3 * index) 0 ≡ get_or places index 0
unfolding entries_of
entries-place text [] index = refl
entries-place text (p ∷ ps) zero = refl
entries-place text (p ∷ ps) (suc index) =
    let past : 3 * suc index ≡ suc (suc (suc (3 * index))) = omega arith in
    ap (λ (n : ℕ). get_or (entries_of text (p ∷ ps)) n 0) past ∙ entries-place text ps index

-- those of a place stand after those of the places before it
entries_at : (text before : List ℕ) (p : ℕ) (later : List ℕ) → take 3 (drop (3 * length before) (entries_of text (before ++ p ∷ later))) ≡ entries_of text (p ∷ [])
unfolding entries_of
entries_at text [] p later = refl
entries_at text (b ∷ before) p later =
    let past : 3 * suc (length before) ≡ suc (suc (suc (3 * length before))) = omega arith in
    ap (λ (n : ℕ). take 3 (drop n (entries_of text (b ∷ before ++ p ∷ later)))) past ∙ entries_at text before p later

-- three entries that stand in what a list received stand in the list
front-holds : (list values : List ℕ) (k : ℕ) → length values ≤ length list → k + 3 ≤ length values → take 3 (drop k (received list values)) ≡ take 3 (drop k values)
front-holds list values k room inside =
    ap (λ (l : List ℕ). take 3 (drop k l)) (received-front list values room)
    ∙ ap (λ (l : List ℕ). take 3 l) (drop-append-le k values (drop (length values) list) (omega arith))
    ∙ take-append-le 3 (drop k values) (drop (length values) list) (omega (arith, length-drop k values))

-- each of the cues that were found, and whose entries a list received, came out
module _ (f : ℕ → ℕ) (text : List ℕ) where
  all_there : (before : List Cue) (c : Cue) (later : List Cue) → AllThere f text (before ++ c ∷ later) → is_there f text c ≡ true
  unfolding AllThere
  all_there [] c later a = a.0
  all_there (b ∷ before) c later a = all_there before c later a.1

  pub places-split : (before : List Cue) (c : Cue) (later : List Cue) → places_of f text (before ++ c ∷ later) ≡ places_of f text before ++ place_of f text c ∷ places_of f text later
  places-split [] c later = refl
  places-split (b ∷ before) c later = ap (λ (l : List ℕ). place_of f text b ∷ l) (places-split before c later)

  pub came-out : {cs : List Cue} {entries : List ℕ} (entries₀ : List ℕ) → AllThere f text cs → 3 * length cs ≤ length entries₀ → entries ≡ received entries₀ (entries_of text (places_of f text cs))
      → (before : List Cue) (c : Cue) (later : List Cue) → cs ≡ before ++ c ∷ later → CameOut f text entries (length before) c
  came-out {cs} {entries} entries₀ a room is before c later e =
      let ps : List ℕ = places_of f text before in
      let p : ℕ = place_of f text c in
      let qs : List ℕ = places_of f text later in
      let written : List ℕ = entries_of text (ps ++ p ∷ qs) in
      let split : places_of f text cs ≡ ps ++ p ∷ qs = ap (places_of f text) e ∙ places-split before c later in
      let few : length ps ≡ length before = length-map before (place_of f text) in
      let long : length written ≡ 3 * length cs =
      entries-count text (ps ++ p ∷ qs) ∙ omega (arith, length-append ps (p ∷ qs), few, length-map later (place_of f text), ap length e, length-append before (c ∷ later)) in
      let received_is : entries ≡ received entries₀ written = is ∙ ap (λ (l : List ℕ). received entries₀ (entries_of text l)) split in
      let there : is_there f text c ≡ true = all_there before c later (rw e at a) in
      record {
        there = there;
        named = cue-names f text c there;
        entered =
            ap (λ (l : List ℕ). take 3 (drop (3 * length before) l)) received_is
            ∙ front-holds entries₀ written (3 * length before) (omega arith) (omega (arith, ap length e, length-append before (c ∷ later)))
            ∙ ap (λ (n : ℕ). take 3 (drop (3 * n) written)) (sym few) ∙ entries_at text ps p qs;
      }

-- ---- a text folded beforehand

-- as many reads: a fold changes no length
pub reads-folded : (f : ℕ → ℕ) (text : List ℕ) (j : Judged) (cs : List Cue) → reads_of (map f text) j cs ≡ reads_of text j cs
unfolding reads_of
reads-folded f text j cs = ap (λ (n : ℕ). n * length (groups (judged_of j cs))) (length-map text f)

module _ (f : ℕ → ℕ) (twice : Idempotent f) where
  text-twice : (text : List ℕ) → map f (map f text) ≡ map f text
  text-twice [] = refl
  text-twice (b ∷ text) = ap₂ (λ (x : ℕ) (xs : List ℕ). x ∷ xs) (twice b) (text-twice text)

  occurrences-folded : (text : List ℕ) (c : Cue) → cue_occurrences f (map f text) c ≡ cue_occurrences f text c
  unfolding cue_occurrences
  occurrences-folded text c = ap (occurrences (map f c.phrase)) (text-twice text)

  fault-folded : (text found : List ℕ) (c : Cue) → cue_fault f (map f text) found c ≡ cue_fault f text found c
  unfolding cue_fault
  fault-folded text found c = ap (λ (l : List ℕ). fault_of (has_nth l c.ordinal) (length found) (place_before found) (get_or l (c.ordinal - 1) 0)) (occurrences-folded text c)

  -- the same places, the same fault
  pub judge-folded : (text found : List ℕ) (xs : List Numbered) → judge f (map f text) found xs ≡ judge f text found xs
  unfolding judge
  judge-folded text found [] = refl
  judge-folded text found (x ∷ xs) =
      let p : ℕ = place_of f text x.cue in
      let place : place_of f (map f text) x.cue ≡ p = ap (λ (l : List ℕ). get_or l (x.cue.ordinal - 1) 0) (occurrences-folded text x.cue) in
      let rest : judge f (map f text) (found ++ place_of f (map f text) x.cue ∷ []) xs ≡ judge f text (found ++ p ∷ []) xs =
      ap (λ (q : ℕ). judge f (map f text) (found ++ q ∷ []) xs) place ∙ judge-folded text (found ++ p ∷ []) xs in
      ap₂ (λ (k : ℕ) (j : Judged). cond (eqb k 0) j (record { refusal = k; number = x.number; places = found })) (fault-folded text found x.cue) rest

  -- the same lines and columns, where the fold keeps line ends
  module _ (keeps : KeepsLines f) where
    entries-folded : (text places : List ℕ) → entries_of (map f text) places ≡ entries_of text places
    unfolding entries_of
    entries-folded text [] = refl
    entries-folded text (p ∷ ps) = ap₂ (λ (x : LineColumn) (l : List ℕ). p ∷ x.line ∷ x.column ∷ l) (keeps text p) (entries-folded text ps)

    pub folded-before : (text : List ℕ) (xs : List Numbered) → resolution f (map f text) xs ≡ resolution f text xs
    unfolding resolution
    folded-before text xs =
        let cs : List Cue = cues_of xs in
        ap (λ (j : Judged). record { refusal = j.refusal; number = j.number; reads = reads_of (map f text) j cs; written = entries_of (map f text) j.places }) (judge-folded text [] xs)
        ∙ ap₂ (λ (n : ℕ) (l : List ℕ). record { refusal = (judge f text [] xs).refusal; number = (judge f text [] xs).number; reads = n; written = l }) (reads-folded f text (judge f text [] xs) cs)
        (entries-folded text (judge f text [] xs).places)
