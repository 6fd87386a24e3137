-- The resolver's law, for any fold that changes nothing the second time (document 02, (iv)): a call that gives 0 has every cue at the occurrence that it names, and the places rise; one that gives 12 or
-- 15 has every cue before the named one, whose occurrence does not exist, or stands where that of the cue before it does or before that; each with its reads; any other refusal leaves all as before; the
-- cues that are not chosen change nothing but the numbers that name the others, and a guest gets the same of two books whose open cues are the same (Alone.antt); and a text folded beforehand gives the same places. Assumes nothing.
use mathlib.Core.Path.{◌≡◌, refl, sym, ap, ap₂, subst, ◌∙◌}
use Prim.Native.Nat.{ℕ, ◌*◌, ◌≤◌}
use native.Mathlib.Omega.{arith}
use mathlib.Core.Bool.{true, cond}
use mathlib.Core.List.{List, [], ◌∷◌, ◌++◌, map}
use lib.ListN.{length, length-append, length-map}
use lib.Dec.{eqb, ltb}
use Rattle.matching.specs.Received.{received}
use Rattle.matching.proofs.CaseAnalysis.{by-test}
use Rattle.cues.specs.Cue.{Cue}
use Rattle.cue_book.specs.Reading.{Reading, refused, cues, read_book, playing_for, cues_in}
use Rattle.outcome.specs.Outcome.{Numbered, chosen, cues_of, place_of, place_before, cue_fault, Judged, judge, entries_of, reads_of, groups, Resolution, resolution, Call, call_refusal_of, call_refusal, Outcome, refusing, with_cues, with_book, outcome}
use Rattle.outcome.specs.Told.{Idempotent, KeepsLines, Rises, Grouping, places_of, AllOut, OneFaulty, Missing, Falling, Another, Idle, beforehand, SamePlaces, Law}
use Rattle.outcome.proofs.Choosing.{chosen-are, length-for, names-seen}
use Rattle.outcome.proofs.Judging.{last_more, rises-none, names-missing, names-falling, two-faults, all_found, one-faulted}
use Rattle.outcome.proofs.Placing.{entries-count, entries-place, places-split, came-out, reads-folded, judge-folded, folded-before}
use Rattle.outcome.proofs.Grouping.{book-grouped, group_of, reads_all, reads-up-to}
use Rattle.outcome.proofs.Calls.{Reached, reached}
use Rattle.outcome.proofs.Alone.{playing-alone, secrecy}

-- ---- each cue comes out, by any fold

cues-split : (before : List Numbered) (x : Numbered) (later : List Numbered) → cues_of (before ++ x ∷ later) ≡ cues_of before ++ x.cue ∷ cues_of later
cues-split [] x later = refl
cues-split (b ∷ before) x later = ap (λ (l : List Cue). b.cue ∷ l) (cues-split before x later)

-- the last cue before a fault of 15, and its place
record Ends (cs : List Cue) : Type 0 where
  front : List Cue
  previous : Cue
  is : cs ≡ front ++ previous ∷ []

ends : (cs : List Cue) → 1 ≤ length cs → Ends cs
ends [] h = absurd (omega arith)
ends (d ∷ []) h = record { front = []; previous = d; is = refl }
ends (d ∷ e ∷ cs) h = let r = ends (e ∷ cs) (omega arith) in record { front = d ∷ r.front; previous = r.previous; is = ap (λ (l : List Cue). d ∷ l) r.is }

falling : (f : ℕ → ℕ) (text : List ℕ) (earlier : List Cue) (d : Cue) → cue_fault f text (places_of f text earlier) d ≡ 15 → Falling f text earlier d
falling f text earlier d e =
    let n = names-falling f text (places_of f text earlier) d e in
    let last = ends earlier (omega (arith, n.1.0, length-map earlier (place_of f text))) in
    let place : place_before (places_of f text earlier) ≡ place_of f text last.previous =
    ap (λ (l : List Cue). place_before (places_of f text l)) last.is ∙ ap place_before (places-split f text last.front last.previous []) ∙ last_more (places_of f text last.front) (place_of f text last.previous) in
    record { there = n.0; front = last.front; previous = last.previous; last = last.is; low = omega (arith, n.1.1) }

module _ (f : ℕ → ℕ) (c : Call) (book entries : List ℕ) (lent : length entries ≡ c.entries) where
  abbrev given : Resolution
  given = (outcome f c (read_book book)).resolution

  abbrev whole : List Cue
  whole = cues_in (read_book book)

  -- those that are chosen, and what they are judged
  abbrev all : List Cue
  all = playing_for c.who whole

  abbrev judged : Judged
  judged = judge f c.text [] (chosen c.who whole)

  module _ (w : Reached f c book) where
    given_is : given ≡ record { refusal = judged.refusal; number = judged.number; reads = reads_of c.text judged (cues_of (chosen c.who whole)); written = entries_of c.text judged.places }
    unfolding resolution
    given_is = ap (λ (o : Outcome). o.resolution) w.is

    reads-given : {cs : List Cue} → all ≡ cs → given.reads ≡ reads_of c.text judged cs
    reads-given e = ap (λ (g : Resolution). g.reads) given_is ∙ ap (reads_of c.text judged) (chosen-are c.who whole ∙ e)

    entered-is : received entries given.written ≡ received entries (entries_of c.text judged.places)
    entered-is = ap (λ (g : Resolution). received entries g.written) given_is

  -- a call that gives 0
  all-out : given.refusal ≡ 0 → AllOut f c.text c.who book (received entries given.written) given.number given.reads
  all-out z =
      let w = reached f c book (λ o. o.not-0 z) in
      let is = given_is w in
      let g = all_found f c.text [] (chosen c.who whole) rises-none (sym (ap (λ (g : Resolution). g.refusal) is) ∙ z) in
      let same : cues_of (chosen c.who whole) ≡ all = chosen-are c.who whole in
      let stand : judged.places ≡ places_of f c.text all = g.places ∙ ap (places_of f c.text) same in
      record {
        whole = whole;
        read = w.read;
        number_is = ap (λ (g : Resolution). g.number) is ∙ g.number ∙ omega (arith, length-for c.who whole);
        rises = subst Rises stand g.rises;
        grouped = book-grouped c.who book w.read;
        reads-are = reads-given w refl ∙ reads_all c.text judged all (omega (arith, ap length stand, length-map all (place_of f c.text)));
        out = came-out f c.text entries (rw same at g.there) (omega (arith, w.three, lent)) (entered-is w ∙ ap (λ (l : List ℕ). received entries (entries_of c.text l)) stand);
      }

  -- a call that gives 12 or 15, whichever fault it is
  one-faulty : (Fault : List Cue → Cue → Type 0) → ((earlier : List Cue) (d : Cue) → given.refusal ≡ cue_fault f c.text (places_of f c.text earlier) d → Fault earlier d)
      → (Another given.refusal → ⊥) → (given.refusal ≡ 0 → ⊥) → OneFaulty f c.text c.who Fault book (received entries given.written) given.number given.reads
  one-faulty Fault means one some =
      let w = reached f c book one in
      let is = given_is w in
      let refusal : given.refusal ≡ judged.refusal = ap (λ (g : Resolution). g.refusal) is in
      let g = one-faulted f c.text [] (chosen c.who whole) rises-none (λ n. some (refusal ∙ n)) in
      let n = names-seen c.who whole g.before g.faulty g.later g.all in
      let d : Cue = g.faulty.cue in
      let earlier : List Cue = playing_for c.who n.front in
      let later : List Cue = playing_for c.who n.back in
      let stand : judged.places ≡ places_of f c.text earlier = g.places ∙ ap (places_of f c.text) n.earlier in
      let split : all ≡ earlier ++ d ∷ later =
      sym (chosen-are c.who whole) ∙ ap cues_of g.all ∙ cues-split g.before g.faulty g.later ∙ ap₂ (λ (l m : List Cue). l ++ d ∷ m) n.earlier n.others in
      let few : length earlier ≤ length all = omega (arith, ap length split, length-append earlier (d ∷ later)) in
      let here = group_of earlier d later in
      let found : length judged.places ≡ length earlier = ap length stand ∙ length-map earlier (place_of f c.text) in
      record {
        before = n.front;
        faulty = d;
        after = n.back;
        read = w.read ∙ ap cues n.split;
        sees = n.sees;
        plays = n.plays;
        number_is = ap (λ (g : Resolution). g.number) is ∙ g.number ∙ n.number_is;
        fault = means earlier d (refusal ∙ g.why ∙ ap (λ (l : List ℕ). cue_fault f c.text l d) stand);
        rises = subst Rises stand g.rises;
        grouped = subst (λ (l : List Cue). Grouping l (groups l)) split (book-grouped c.who book w.read);
        group = here;
        reads-are = reads-given w split ∙ reads-up-to c.text judged earlier d later here found;
        out = came-out f c.text entries (rw n.earlier at g.there) (omega (arith, w.three, lent)) (entered-is w ∙ ap (λ (l : List ℕ). received entries (entries_of c.text l)) stand);
      }

  one-missing : given.refusal ≡ 12 → OneFaulty f c.text c.who (Missing f c.text) book (received entries given.written) given.number given.reads
  one-missing z = one-faulty (Missing f c.text) (λ earlier d e. names-missing f c.text (places_of f c.text earlier) d (sym e ∙ z)) (λ o. o.not-12 z) (λ n. omega arith)

  one-falling : given.refusal ≡ 15 → OneFaulty f c.text c.who (Falling f c.text) book (received entries given.written) given.number given.reads
  one-falling z = one-faulty (Falling f c.text) (λ earlier d e. falling f c.text earlier d (sym e ∙ z)) (λ o. o.not-15 z) (λ n. omega arith)

-- ---- any other refusal

idle-self : (number index : ℕ) → Idle (refusing number index)
idle-self number index = record { works = refl; reads = refl; written = refl }

module _ (f : ℕ → ℕ) (c : Call) where
  -- cues that are resolved give 0, 12 or 15
  one_of_three : (xs : List Numbered) → Another (resolution f c.text xs).refusal → ⊥
  unfolding resolution
  one_of_three xs o = let g = one-faulted f c.text [] xs rises-none o.not-0 in two-faults f c.text (judge f c.text [] xs).places g.faulty.cue (subst Another g.why o)

  idle-book : (book : Reading) → let o = with_book f c book in Another o.resolution.refusal → Idle o
  unfolding with_book with_cues
  idle-book (refused number index) = λ other. idle-self number index
  idle-book (cues cs) =
      by-test
      (λ t. let o : Outcome = cond t (refusing 11 0) (record { works = true; resolution = resolution f c.text (chosen c.who cs) }) in Another o.resolution.refusal → Idle o)
      (ltb c.entries (3 * length (chosen c.who cs)))
      (λ _ other. idle-self 11 0)
      (λ _ other. absurd (one_of_three (chosen c.who cs) other))

  idle : (book : Reading) → let o = outcome f c book in Another o.resolution.refusal → Idle o
  unfolding outcome
  idle book =
      by-test
      (λ t. let o : Outcome = cond t (with_book f c book) (refusing (call_refusal c) 0) in Another o.resolution.refusal → Idle o)
      (eqb (call_refusal c) 0)
      (λ _. idle-book book)
      (λ _ other. idle-self (call_refusal c) 0)

-- ---- a text folded beforehand

same_self : (o : Outcome) → SamePlaces o o
same_self o = record { works = refl; refusal = refl; number = refl; reads = refl; written = refl; places = λ i. refl }

module _ (f : ℕ → ℕ) (twice : Idempotent f) (c : Call) where
  -- no test looks at the text's letters
  refusal-same : call_refusal (beforehand f c) ≡ call_refusal c
  refusal-same = ap (λ (n : ℕ). call_refusal_of c.who c.page n c.copy c.scratch) (length-map c.text f)

  -- the same judgement, so the same places
  places_same : (xs : List Numbered) → SamePlaces (record { works = true; resolution = resolution f (map f c.text) xs }) (record { works = true; resolution = resolution f c.text xs })
  unfolding resolution
  places_same xs =
      let j = judge f c.text [] xs in
      let e : judge f (map f c.text) [] xs ≡ j = judge-folded f twice c.text [] xs in
      rw e
      (record {
        works = refl;
        refusal = refl;
        number = refl;
        reads = reads-folded f c.text j (cues_of xs);
        written = entries-count (map f c.text) j.places ∙ sym (entries-count c.text j.places);
        places = λ i. entries-place (map f c.text) j.places i ∙ sym (entries-place c.text j.places i);
      })

  book-same : (book : Reading) → SamePlaces (with_book f (beforehand f c) book) (with_book f c book)
  unfolding with_book with_cues
  book-same (refused number index) = same_self (refusing number index)
  book-same (cues cs) =
      by-test (λ t. SamePlaces (cond t (refusing 11 0) (record { works = true; resolution = resolution f (map f c.text) (chosen c.who cs) })) (cond t (refusing 11 0) (record { works = true; resolution = resolution f c.text (chosen c.who cs) })))
      (ltb c.entries (3 * length (chosen c.who cs)))
      (λ _. same_self (refusing 11 0))
      (λ _. places_same (chosen c.who cs))

  same-places : (book : Reading) → SamePlaces (outcome f (beforehand f c) book) (outcome f c book)
  unfolding outcome
  same-places book =
      rw refusal-same
      (by-test (λ t. SamePlaces (cond t (with_book f (beforehand f c) book) (refusing (call_refusal c) 0)) (cond t (with_book f c book) (refusing (call_refusal c) 0))) (eqb (call_refusal c) 0)
      (λ _. book-same book)
      (λ _. same_self (refusing (call_refusal c) 0)))

  -- and the same of everything, where the fold keeps lines
  module _ (keeps : KeepsLines f) where
    book-is : (book : Reading) → with_book f (beforehand f c) book ≡ with_book f c book
    unfolding with_book with_cues
    book-is (refused number index) = refl
    book-is (cues cs) = ap (λ (r : Resolution). cond (ltb c.entries (3 * length (chosen c.who cs))) (refusing 11 0) (record { works = true; resolution = r })) (folded-before f twice keeps c.text (chosen c.who cs))

    same_lines : (book : Reading) → outcome f (beforehand f c) book ≡ outcome f c book
    unfolding outcome
    same_lines book = rw (refusal-same, book-is book) refl

-- ---- the law

pub law : (f : ℕ → ℕ) → Idempotent f → Law f
law f twice = record { all-out = all-out f; one-missing = one-missing f; one-falling = one-falling f; idle = idle f; playing-alone = playing-alone f; secrecy = secrecy f; same-places = same-places f twice; same_lines = λ keeps c. same_lines f twice c keeps }
