-- A group's cues looked for in one walk of the folded text: the automaton takes them as they stand in the book, and what it leaves tells of each. Assumes nothing.
use mathlib.Core.Path.{◌≡◌, refl, sym, ap, ap₂, subst, ◌∙◌}
use Prim.Native.Nat.{ℕ, zero, suc, ◌+◌, ◌-◌, ◌≤◌, ◌<◌}
use native.Mathlib.Omega.{arith}
use mathlib.Core.Bool.{Bool, true, false, cond}
use mathlib.Core.List.{List, [], ◌∷◌, ◌++◌, map, append_assoc, append-nil}
use lib.ListN.{length, get_or, take, length-append, length-map}
use lib.Seq.{take-append_seam}
use lib.Dec.{eqb}
use borrow.Author.Tests.{eq-eqb, ne_eqb, eqb-true, eqb-false}
use Rattle.matching.specs.Occurrences.{occurrences, has_nth}
use Rattle.matching.proofs.CaseAnalysis.{by-test}
use Rattle.fold.specs.Fold.{fold_on}
use Rattle.phrases.specs.Phrases as phrases
use Rattle.phrases.specs.Phrases.{phrases_in}
use Rattle.std.specs.Prelude.{Option, Some, None}
use Rattle.automaton.specs.Locate.{Accepted, Located, Answered}
use Rattle.automaton.proofs.Locating as locating
use Rattle.cues.specs.declared.Choice.{Choice}
use Rattle.cues.specs.Cue.{Cue}
use Rattle.outcome.specs.Outcome.{letters, Numbered, cues_of, cue_occurrences, is_there, place_of, fault_of, place_before, cue_fault, judge}
use Rattle.outcome.proofs.Judging.{none-there, last_more, judge-on, judge-stop, judge-end}
use Rattle.outcome.proofs.Grouping.{fit-few, fit-short}
use Rattle.resolver.specs.declared.CuesRead.{CuesRead}
use Rattle.resolver.specs.Walking.{Held, cues_held, starts_of, lens_of, ordinals_of, numbers_of, Gathered, Searchable, Told, Searched, Passing, passing}

-- ---- the held cues, as the automaton takes them

module _ {book : List ℕ} where
  -- their phrases, folded
  phrases-held : (f : ℕ → ℕ) (hs : List (Held book)) → phrases_in f book (starts_of hs) (lens_of hs) ≡ map (λ c. map f c.phrase) (cues_held hs)
  unfolding phrases_in
  phrases-held f [] = refl
  phrases-held f (h ∷ hs) = ap₂ (λ (p : List ℕ) (ps : List (List ℕ)). map f p ∷ ps) h.letters (phrases-held f hs)

  ordinals-held : (hs : List (Held book)) → ordinals_of hs ≡ map (λ c. c.ordinal) (cues_held hs)
  ordinals-held [] = refl
  ordinals-held (h ∷ hs) = ap (λ (l : List ℕ). h.cue.ordinal ∷ l) (ordinals-held hs)

  -- each lies in the book, has a letter, and names an occurrence
  inside-held : (hs : List (Held book)) (k : ℕ) → k < length hs → get_or (starts_of hs) k 0 + get_or (lens_of hs) k 0 ≤ length book
  inside-held [] k h = absurd (omega arith)
  inside-held (x ∷ hs) zero h = x.inside
  inside-held (x ∷ hs) (suc k) h = inside-held hs k (omega arith)

  letter-held : (hs : List (Held book)) (k : ℕ) → k < length hs → 1 ≤ get_or (lens_of hs) k 0
  letter-held [] k h = absurd (omega arith)
  letter-held (x ∷ hs) zero h = x.some
  letter-held (x ∷ hs) (suc k) h = letter-held hs k (omega arith)

  named-held : (hs : List (Held book)) (k : ℕ) → k < length hs → 1 ≤ get_or (ordinals_of hs) k 0
  named-held [] k h = absurd (omega arith)
  named-held (x ∷ hs) zero h = x.named
  named-held (x ∷ hs) (suc k) h = named-held hs k (omega arith)

-- folding keeps their letters' number
letters-folded : (f : ℕ → ℕ) (cs : List Cue) → phrases.letters (map (λ c. map f c.phrase) cs) ≡ letters cs
unfolding phrases.letters letters
letters-folded f [] = refl
letters-folded f (c ∷ cs) = omega (arith, letters-folded f cs, length-map c.phrase f)

-- what a function gives of a cue stands where the cue does
at-seam : {A : Type 0} (g : Cue → A) (before : List Cue) (c : Cue) (later : List Cue) (d : A) → get_or (map g (before ++ c ∷ later)) (length before) d ≡ g c
at-seam g [] c later d = refl
at-seam g (b ∷ before) c later d = at-seam g before c later d

module _ {who : Choice} {page : ℕ} {book : List ℕ} {number rest place : ℕ} {copy scratch left₀ places₀ numbers₀ : List ℕ} (lent : Searchable who page book number rest place copy scratch left₀ places₀ numbers₀) {r : CuesRead} {starts lens left numbers : List ℕ} (g : Gathered who book number place r starts lens left numbers) where
  abbrev hs : List (Held book)
  hs = g.held

  -- the cues of the group
  abbrev group : List Cue
  group = cues_of g.next.group

  group-size : r.count ≡ length group
  group-size = g.next.counted ∙ sym (length-map g.next.group (λ (x : Numbered). x.cue))

  size-held : r.count ≡ length hs
  size-held = group-size ∙ ap length g.cues ∙ length-map hs (λ (h : Held book). h.cue)

  pub few-held : r.count ≤ 64
  few-held = omega (arith, group-size, fit-few group g.next.grouped.fit)

  -- the automaton takes them
  accepted : {places : List ℕ} → length places ≡ r.count → Accepted page book (starts_of hs) (lens_of hs) copy scratch (ordinals_of hs) places
  accepted {places} long =
      let s = length-map hs (λ (h : Held book). h.start) in
      let l = length-map hs (λ (h : Held book). length h.cue.phrase) in
      let o = length-map hs (λ (h : Held book). h.cue.ordinal) in
      let n = size-held in
      let most : phrases.letters (phrases_in (fold_on page) book (starts_of hs) (lens_of hs)) ≡ letters group =
      ap phrases.letters (phrases-held (fold_on page) hs) ∙ letters-folded (fold_on page) (cues_held hs) ∙ ap letters (sym g.cues) in
      record {
        known = lent.known;
        some = omega (arith, s, n, group-size, g.next.grouped.some);
        few = omega (arith, s, n, few-held);
        pairs = s ∙ sym l;
        inside = λ k h. inside-held hs k (omega (arith, s, h));
        letter = λ k h. letter-held hs k (omega (arith, s, h));
        most = omega (arith, most, fit-short group g.next.grouped.fit);
        lefts = o ∙ sym s;
        places = omega (arith, long, s, n);
        room = lent.room;
        small = omega (arith, lent.small);
      }

  module _ {places : List ℕ} (long : length places ≡ r.count) where
    -- so it walks
    walks : {o : Option ℕ} {scratch' left' places' : List ℕ} → Answered page book (take r.count starts) (take r.count lens) copy scratch (take r.count left) places o scratch' left' places'
        → Answered page book (starts_of hs) (lens_of hs) copy scratch (ordinals_of hs) places o scratch' left' places'
    walks {o} {scratch'} {left'} {places'} a =
        subst (λ (l : List ℕ). Answered page book (starts_of hs) (lens_of hs) copy scratch l places o scratch' left' places') g.ordinals
        (subst (λ (l : List ℕ). Answered page book (starts_of hs) l copy scratch (take r.count left) places o scratch' left' places') g.lens
        (subst (λ (l : List ℕ). Answered page book l (take r.count lens) copy scratch (take r.count left) places o scratch' left' places') g.starts a))

    pub walked : {scratch' left' places' : List ℕ} → Answered page book (take r.count starts) (take r.count lens) copy scratch (take r.count left) places None scratch' left' places' → ⊥
    walked a = ((walks a).refused refl).0 (accepted long)

  module _ {places : List ℕ} (long : length places ≡ r.count) {reads : ℕ} {scratch' left' places' : List ℕ} (a : Answered page book (take r.count starts) (take r.count lens) copy scratch (take r.count left) places (Some reads) scratch' left' places') where
    pub located : Located page book (starts_of hs) (lens_of hs) copy scratch (ordinals_of hs) places reads scratch' left' places'
    located = (walks long a).walked reads refl

    left-size : length left' ≡ r.count
    left-size = locating.left-long located ∙ length-map hs (λ (h : Held book). h.cue.ordinal) ∙ sym size-held

    places-size : length places' ≡ r.count
    places-size = locating.place-long located ∙ long

    -- and what it left tells of each cue
    told-held : (text : List ℕ) → copy ≡ map (fold_on page) text → Told (fold_on page) text left' places' group
    unfolding cue_occurrences
    told-held text e =
        record {
          found = λ before c later split none.
              let k : ℕ = length before in
              let p = at before c later split in
              let few : k < length (starts_of hs) = omega (arith, p.0, length-map hs (λ (h : Held book). h.start)) in
              let some = named-held hs k p.0 in (
                ap₂ (λ (l : List ℕ) (o : ℕ). has_nth l o) (sym p.1.0) (sym p.1.1) ∙ locating.found located k few some none,
                locating.stands located k few some none ∙ ap₂ (λ (l : List ℕ) (o : ℕ). get_or l (o - 1) 0) p.1.0 p.1.1,
              );
          missing = λ before c later split more.
              let k : ℕ = length before in
              let p = at before c later split in
              let few : k < length (starts_of hs) = omega (arith, p.0, length-map hs (λ (h : Held book). h.start)) in
              ap₂ (λ (l : List ℕ) (o : ℕ). has_nth l o) (sym p.1.0) (sym p.1.1) ∙ locating.missing located k few more;
        }
      where
        at : (before : List Cue) (c : Cue) (later : List Cue) → group ≡ before ++ c ∷ later
            → (length before < length hs) × ((occurrences (get_or (phrases_in (fold_on page) book (starts_of hs) (lens_of hs)) (length before) []) copy ≡ cue_occurrences (fold_on page) text c) × (get_or (ordinals_of hs) (length before) 0 ≡ c.ordinal))
        at before c later split =
            let is : cues_held hs ≡ before ++ c ∷ later = sym g.cues ∙ split in (
              omega (arith, sym (ap length is) ∙ length-map hs (λ (h : Held book). h.cue), length-append before (c ∷ later)),
              (
                ap₂ (λ (P T : List ℕ). occurrences P T)
                    (ap (λ (l : List (List ℕ)). get_or l (length before) []) (phrases-held (fold_on page) hs ∙ ap (map (λ c. map (fold_on page) c.phrase)) is) ∙ at-seam (λ c. map (fold_on page) c.phrase) before c later [])
                    e,
                ap (λ (l : List ℕ). get_or l (length before) 0) (ordinals-held hs ∙ ap (map (λ c. c.ordinal)) is) ∙ at-seam (λ c. c.ordinal) before c later 0,
              ),
            )

    -- it stands at the front of the arrays
    pub searched : (more more₂ : List ℕ) → Searched who page book number place copy scratch (record { count = r.count; after = r.after; reads = reads }) scratch' (left' ++ more) (places' ++ more₂) numbers
    searched more more₂ =
        let front = held left-size more in
        let front₂ = held places-size more₂ in
        record {
          next = g.next;
          reads = locating.reads_all located;
          emptied = located.emptied;
          lefts = ap length front ∙ left-size;
          places = ap length front₂ ∙ places-size;
          told = λ text e.
              subst (λ (l : List ℕ). Told (fold_on page) text l (take r.count (places' ++ more₂)) group) (sym front)
              (subst (λ (l : List ℕ). Told (fold_on page) text left' l group) (sym front₂) (told-held text e));
          numbers = g.numbers;
        }
      where
        held : {l : List ℕ} → length l ≡ r.count → (m : List ℕ) → take r.count (l ++ m) ≡ l
        held {l} e m = ap (λ (k : ℕ). take k (l ++ m)) (sym e) ∙ take-append_seam l m

-- ---- from what is told of a group: what passes is what is judged

module _ (f : ℕ → ℕ) (text : List ℕ) where
  -- a cue's fault, where so many places were found before and the last of them is that
  fault-at : {n last : ℕ} (found : List ℕ) (c : Cue) → n ≡ length found → last ≡ place_before found → cue_fault f text found c ≡ fault_of (is_there f text c) n last (place_of f text c)
  unfolding cue_fault
  fault-at found c e k = ap₂ (λ (i j : ℕ). fault_of (is_there f text c) i j (place_of f text c)) (sym e) (sym k)

  -- from what is told of it: nothing is left, and it stands there
  told-there : (n last : ℕ) {l p : ℕ} (c : Cue) → l ≡ 0 → (is_there f text c ≡ true) × (p ≡ place_of f text c) → fault_of (eqb l 0) n last p ≡ fault_of (is_there f text c) n last (place_of f text c)
  told-there n last {l} c e h = ap₂ (λ (b : Bool) (q : ℕ). fault_of b n last q) (eq-eqb l 0 e ∙ sym h.0) h.1

  -- something is left, so that its place plays no part
  told-missing : (n last p : ℕ) {l : ℕ} (c : Cue) → (l ≡ 0 → ⊥) → is_there f text c ≡ false → (fault_of (eqb l 0) n last p ≡ 12) × (fault_of (is_there f text c) n last (place_of f text c) ≡ 12)
  told-missing n last p {l} c e h =
      (ap (λ (b : Bool). fault_of b n last p) (ne_eqb l 0 e) ∙ none-there n last p, ap (λ (b : Bool). fault_of b n last (place_of f text c)) h ∙ none-there n last (place_of f text c))

  -- what is told of the others
  told-others : {l p : ℕ} {left places : List ℕ} {c : Cue} {cs : List Cue} → Told f text (l ∷ left) (p ∷ places) (c ∷ cs) → Told f text left places cs
  told-others {l} {p} {left} {places} {c} t =
      record {
        found = λ before d later split. t.found (c ∷ before) d later (ap (λ (m : List Cue). c ∷ m) split);
        missing = λ before d later split. t.missing (c ∷ before) d later (ap (λ (m : List Cue). c ∷ m) split);
      }

  pub judged : (n last : ℕ) (found left places : List ℕ) (xs : List Numbered) → n ≡ length found → last ≡ place_before found → length left ≡ length xs → length places ≡ length xs → Told f text left places (cues_of xs)
      → let s = passing n last left places in
      judge f text found xs ≡ record { refusal = s.refusal; number = cond (eqb s.refusal 0) (n + length s.places) (get_or (numbers_of xs) (length s.places) 0); places = found ++ s.places }
  unfolding passing
  judged n last found [] places [] en el e k t = judge-end f text found ∙ ap₂ (λ (i : ℕ) (l : List ℕ). record { refusal = 0; number = i; places = l }) (omega (arith, en)) (sym (append-nil found))
  judged n last found [] places (x ∷ xs) en el e k t = absurd (omega arith)
  judged n last found (l ∷ left) places [] en el e k t = absurd (omega arith)
  judged n last found (l ∷ left) [] (x ∷ xs) en el e k t = absurd (omega arith)
  judged n last found (l ∷ left) (p ∷ places) (x ∷ xs) en el e k t =
      let c : Cue = x.cue in
      let cs : List Cue = cues_of xs in
      let fault : ℕ = fault_of (eqb l 0) n last p in
      let rest : Passing = passing (suc n) p left places in
      let is = fault-at found c en el in
      by-test
      (λ b. let s : Passing = cond b (record { refusal = rest.refusal; places = p ∷ rest.places }) (record { refusal = fault; places = [] }) in
      judge f text found (x ∷ xs) ≡ record { refusal = s.refusal; number = cond (eqb s.refusal 0) (n + length s.places) (get_or (numbers_of (x ∷ xs)) (length s.places) 0); places = found ++ s.places })
      (eqb fault 0)
      (λ b.
      let z = eqb-true fault 0 b in
      let none : l ≡ 0 = nothing_left z in
      let h = t.found [] c cs refl none in
      let again = judged (suc n) p (found ++ p ∷ []) left places xs (omega (arith, en, length-append found (p ∷ []))) (sym (last_more found p)) (omega arith) (omega arith) (told-others t) in
      let count : suc n + length rest.places ≡ n + suc (length rest.places) = omega arith in
      judge-on f text found x xs (is ∙ sym (told-there n last c none h) ∙ z)
      ∙ ap (λ (q : ℕ). judge f text (found ++ q ∷ []) xs) (sym h.1)
      ∙ again
      ∙ ap₂ (λ (i : ℕ) (ps : List ℕ). record { refusal = rest.refusal; number = cond (eqb rest.refusal 0) i (get_or (numbers_of xs) (length rest.places) 0); places = ps }) count (append_assoc found (p ∷ []) rest.places))
      (λ b.
      let some = eqb-false fault 0 b in
      let same : cue_fault f text found c ≡ fault = is ∙ sym faults in
      judge-stop f text found x xs (λ z. some (sym same ∙ z))
      ∙ rw b (ap₂ (λ (i : ℕ) (ps : List ℕ). record { refusal = i; number = x.number; places = ps }) same (sym (append-nil found))))
    where
      nothing_left : fault_of (eqb l 0) n last p ≡ 0 → l ≡ 0
      nothing_left z =
          by-test (λ _. l ≡ 0) (eqb l 0) (eqb-true l 0)
          (λ b. let some = eqb-false l 0 b in absurd (omega (arith, (told-missing n last p x.cue some (t.missing [] x.cue (cues_of xs) refl (omega (arith, some)))).0)))

      faults : fault_of (eqb l 0) n last p ≡ fault_of (is_there f text x.cue) n last (place_of f text x.cue)
      faults =
          by-test (λ _. fault_of (eqb l 0) n last p ≡ fault_of (is_there f text x.cue) n last (place_of f text x.cue)) (eqb l 0)
          (λ b. let none = eqb-true l 0 b in told-there n last x.cue none (t.found [] x.cue (cues_of xs) refl none))
          (λ b.
          let some = eqb-false l 0 b in
          let m = told-missing n last p x.cue some (t.missing [] x.cue (cues_of xs) refl (omega (arith, some))) in
          m.0 ∙ sym m.1)
