-- The cues that are not chosen, since they do not play (document 02, (viii)) or the role does not see them (document 02, (xiv)): the outcome is that of a book in which only the chosen ones stand, but for the numbers by which a fault names a cue (`playing-alone`); and a guest gets the same of two books whose open cues are the same (`secrecy`). For any fold.
-- Assumes nothing.
use mathlib.Core.Path.{◌≡◌, refl, sym, ap, ap₂, subst, ◌∙◌}
use Prim.Native.Nat.{ℕ, suc, ◌*◌}
use native.Mathlib.Omega.{arith}
use mathlib.Core.Bool.{true, false, cond, false≢true}
use mathlib.Core.List.{List, [], ◌∷◌, ◌++◌}
use lib.ListN.{length, length-append, length-map}
use lib.Dec.{eqb, ltb}
use borrow.Author.Tests.{ne_eqb, eqb-true, eqb-false}
use Rattle.matching.proofs.CaseAnalysis.{by-test, neither}
use Rattle.matching.proofs.Those.{those-append, those-few}
use Rattle.roles.specs.Roles.{guest}
use Rattle.cues.specs.Cue.{Cue, plays_on}
use Rattle.cue_book.specs.Reading.{cues, playing, seen}
use Rattle.outcome.specs.Outcome.{Numbered, chosen_from, chosen, cues_of, place_of, cue_fault, Judged, judge, entries_of, reads_of, resolution, Call, call_refusal, Outcome, refusing, with_cues, with_book, outcome}
use Rattle.outcome.specs.Told.{Another, open_cues, SameCue, names_cue, PlayingAlone}
use Rattle.outcome.proofs.Choosing.{chosen-cues, length-chosen, playing-twice, names, guest-sees, alone-seen}
use Rattle.outcome.proofs.Judging.{rises-none, two-faults, judge-on, judge-stop, one-faulted}
use Rattle.outcome.proofs.Calls.{call-another}

-- ---- the same cues by other numbers

record Alike (j j' : Judged) : Type 0 where
  refusal : j.refusal ≡ j'.refusal
  places : j.places ≡ j'.places
  number : j.refusal ≡ 0 → j.number ≡ j'.number

module _ (f : ℕ → ℕ) (text : List ℕ) where
  alike : (found : List ℕ) (xs ys : List Numbered) → cues_of xs ≡ cues_of ys → Alike (judge f text found xs) (judge f text found ys)
  alike found [] [] e = record { refusal = refl; places = refl; number = λ _. refl }
  alike found [] (y ∷ ys) e = absurd (let n : 0 ≡ suc (length (cues_of ys)) = ap length e in omega arith)
  alike found (x ∷ xs) [] e = absurd (let n : suc (length (cues_of xs)) ≡ 0 = ap length e in omega arith)
  alike found (x ∷ xs) (y ∷ ys) e =
      let same : x.cue ≡ y.cue = ap (head_or x.cue) e in
      let fault : cue_fault f text found x.cue ≡ cue_fault f text found y.cue = ap (cue_fault f text found) same in
      by-test (λ _. Alike (judge f text found (x ∷ xs)) (judge f text found (y ∷ ys))) (eqb (cue_fault f text found x.cue) 0)
      (λ t.
      let z = eqb-true (cue_fault f text found x.cue) 0 t in
      let on = judge-on f text found x xs z in
      let on' = judge-on f text found y ys (sym fault ∙ z) ∙ ap (λ (d : Cue). judge f text (found ++ place_of f text d ∷ []) ys) (sym same) in
      let a = alike (found ++ place_of f text x.cue ∷ []) xs ys (ap tail_of e) in
      rw (on, on') a)
      (λ t.
      let s = eqb-false (cue_fault f text found x.cue) 0 t in
      rw (judge-stop f text found x xs s, judge-stop f text found y ys (λ z. s (fault ∙ z)))
      (record { refusal = fault; places = refl; number = λ z. absurd (s z) }))
    where
      head_or : Cue → List Cue → Cue
      head_or d [] = d
      head_or d (c ∷ cs) = c

      tail_of : List Cue → List Cue
      tail_of [] = []
      tail_of (c ∷ cs) = cs

  -- the reads depend on the places and the cues alone
  reads-named : (j : Judged) (refusal number : ℕ) (cs : List Cue) → reads_of text j cs ≡ reads_of text (record { refusal = refusal; number = number; places = j.places }) cs
  unfolding reads_of
  reads-named j refusal number cs = refl

  reads-alike : (j j' : Judged) {cs cs' : List Cue} → j.places ≡ j'.places → cs ≡ cs' → reads_of text j cs ≡ reads_of text j' cs'
  reads-alike j j' {cs} p e =
      reads-named j j'.refusal j'.number cs ∙ ap₂ (λ (l : List ℕ) (d : List Cue). reads_of text (record { refusal = j'.refusal; number = j'.number; places = l }) d) p e

-- the front of cues that all play has as many that do
front-plays : (day : ℕ) (front back : List Cue) → playing day (front ++ back) ≡ front ++ back → length (playing day front) ≡ length front
front-plays day front back e =
    omega (
      arith,
      sym (ap length (those-append (plays_on day) front back)) ∙ ap length e,
      length-append (playing day front) (playing day back),
      length-append front back,
      those-few (plays_on day) front,
      those-few (plays_on day) back,
    )

module _ (f : ℕ → ℕ) (c : Call) (book : List Cue) where
  abbrev day : ℕ
  day = c.who.day

  -- what the role sees of the book, and what plays of that
  abbrev whole : List Cue
  whole = seen c.who.role book

  abbrev alone : List Cue
  alone = playing day whole

  -- chosen of the book with those alone
  chosen-alone : chosen c.who alone ≡ chosen_from day 0 alone
  chosen-alone = ap (chosen_from day 0) (alone-seen c.who book)

  -- the cues chosen of both books are the same
  same-cues : cues_of (chosen_from day 0 whole) ≡ cues_of (chosen_from day 0 alone)
  same-cues = chosen-cues day 0 whole ∙ sym (playing-twice day whole) ∙ sym (chosen-cues day 0 alone)

  same_length : length (chosen_from day 0 whole) ≡ length (chosen_from day 0 alone)
  same_length = length-chosen day 0 whole ∙ ap length (sym (playing-twice day whole)) ∙ sym (length-chosen day 0 alone)

  abbrev j : Judged
  j = judge f c.text [] (chosen_from day 0 whole)

  abbrev j' : Judged
  j' = judge f c.text [] (chosen_from day 0 alone)

  judged : Alike j j'
  judged = alike f c.text [] (chosen_from day 0 whole) (chosen_from day 0 alone) same-cues

  -- a fault names the same cue
  fault-same : (j.refusal ≡ 0 → ⊥) → SameCue day whole j.number j'.number
  fault-same some =
      let g = one-faulted f c.text [] (chosen_from day 0 whole) rises-none some in
      let g' = one-faulted f c.text [] (chosen_from day 0 alone) rises-none (λ z. some (judged.refusal ∙ z)) in
      let n = names day 0 whole g.before g.faulty g.later g.all in
      let n' = names day 0 alone g'.before g'.faulty g'.later g'.all in
      let many : length (cues_of g.before) ≡ length (cues_of g'.before) =
      omega (
        arith,
        sym (ap length g.places) ∙ ap length judged.places ∙ ap length g'.places,
        length-map (cues_of g.before) (place_of f c.text),
        length-map (cues_of g'.before) (place_of f c.text),
      ) in
      let all : playing day (n'.front ++ g'.faulty.cue ∷ n'.back) ≡ n'.front ++ g'.faulty.cue ∷ n'.back = ap (playing day) (sym n'.split) ∙ playing-twice day whole ∙ n'.split in
      record {
        before = n.front;
        cue = g.faulty.cue;
        after = n.back;
        split = n.split;
        plays = n.plays;
        number_is = g.number ∙ n.number_is ∙ omega arith;
        number'-is = omega (arith, g'.number, n'.number_is, front-plays day n'.front (g'.faulty.cue ∷ n'.back) all, ap length n'.earlier, many, ap length n.earlier);
      }

  -- ---- the outcomes

  -- any other refusal names no cue
  refusing-alone : (refusal number : ℕ) → Another refusal → PlayingAlone day whole (refusing refusal number) (refusing refusal number)
  refusing-alone refusal number other =
      let none : names_cue refusal ≡ false = rw (ne_eqb refusal 12 other.not-12, ne_eqb refusal 15 other.not-15) in
      record { works = refl; refusal = refl; reads = refl; written = refl; number = λ _. refl; named = λ w. absurd (false≢true (sym none ∙ w)) }

  resolved-alone :
      PlayingAlone day whole (record { works = true; resolution = resolution f c.text (chosen_from day 0 whole) }) (record { works = true; resolution = resolution f c.text (chosen_from day 0 alone) })
  unfolding resolution
  resolved-alone =
      record {
        works = refl;
        refusal = judged.refusal;
        reads = reads-alike f c.text j j' judged.places same-cues;
        written = ap (entries_of c.text) judged.places;
        number = λ w. judged.number (no-fault w);
        named = λ w. fault-same (λ z. false≢true (ap names_cue (sym z) ∙ w));
      }
    where
      -- what is judged with neither 12 nor 15 is judged with 0
      no-fault : names_cue j.refusal ≡ false → j.refusal ≡ 0
      no-fault w =
          by-test (λ _. j.refusal ≡ 0) (eqb j.refusal 0)
          (eqb-true j.refusal 0)
          (λ t.
          let some = eqb-false j.refusal 0 t in
          let g = one-faulted f c.text [] (chosen_from day 0 whole) rises-none some in
          let n = neither (eqb j.refusal 12) (eqb j.refusal 15) w in
          let other : Another j.refusal = record { not-0 = some; not-12 = eqb-false j.refusal 12 n.0; not-15 = eqb-false j.refusal 15 n.1 } in
          absurd (two-faults f c.text j.places g.faulty.cue (subst Another g.why other)))

  -- by the cues that are chosen
  with-alone : PlayingAlone day whole (with_cues f c (chosen_from day 0 whole)) (with_cues f c (chosen_from day 0 alone))
  unfolding with_cues
  with-alone =
      rw same_length
      (by-test
      (λ t. PlayingAlone day whole (cond t (refusing 11 0) (record { works = true; resolution = resolution f c.text (chosen_from day 0 whole) })) (cond t (refusing 11 0) (record { works = true; resolution = resolution f c.text (chosen_from day 0 alone) })))
      (ltb c.entries (3 * length (chosen_from day 0 alone)))
      (λ _. refusing-alone 11 0 (record { not-0 = λ z. omega arith; not-12 = λ z. omega arith; not-15 = λ z. omega arith }))
      (λ _. resolved-alone))

  book-alone : PlayingAlone day whole (with_book f c (cues book)) (with_book f c (cues alone))
  unfolding with_book
  book-alone = subst (λ (xs : List Numbered). PlayingAlone day whole (with_cues f c (chosen_from day 0 whole)) (with_cues f c xs)) (sym chosen-alone) with-alone

  pub playing-alone : PlayingAlone day whole (outcome f c (cues book)) (outcome f c (cues alone))
  unfolding outcome
  playing-alone =
      by-test
      (λ t. PlayingAlone day whole (cond t (with_book f c (cues book)) (refusing (call_refusal c) 0)) (cond t (with_book f c (cues alone)) (refusing (call_refusal c) 0)))
      (eqb (call_refusal c) 0)
      (λ _. book-alone)
      (λ t. refusing-alone (call_refusal c) 0 (call-another c (eqb-false (call_refusal c) 0 t)))

-- ---- what a guest cannot learn

module _ (f : ℕ → ℕ) (c : Call) (one other : List Cue) (guests : c.who.role ≡ guest) (same : open_cues one ≡ open_cues other) where
  -- a guest sees the same of both books
  seen_same : seen c.who.role one ≡ seen c.who.role other
  seen_same = ap (λ (role : ℕ). seen role one) guests ∙ guest-sees one ∙ same ∙ sym (guest-sees other) ∙ ap (λ (role : ℕ). seen role other) (sym guests)

  book-same : with_book f c (cues one) ≡ with_book f c (cues other)
  unfolding with_book
  book-same = ap (λ (cs : List Cue). with_cues f c (chosen_from c.who.day 0 cs)) seen_same

  pub secrecy : outcome f c (cues one) ≡ outcome f c (cues other)
  unfolding outcome
  secrecy = ap (λ (o : Outcome). cond (eqb (call_refusal c) 0) o (refusing (call_refusal c) 0)) book-same
