-- The walk over the groups: what is known along it, and how it goes on, ends and breaks off. Assumes nothing.
use mathlib.Core.Path.{◌≡◌, refl, sym, ap, ap₂, subst, ◌∙◌}
use Prim.Native.Nat.{ℕ, suc, ◌+◌, ◌-◌, ◌*◌, ◌≤◌, ◌<◌}
use native.Mathlib.Omega.{arith}
use native.Mathlib.Nat.{mul-add, mul-le-mul_left}
use mathlib.Core.Bool.{true, cond}
use mathlib.Core.List.{List, [], ◌∷◌, ◌++◌, map, map-append, append_assoc, append-nil}
use lib.ListN.{length, get_or, take, replicate, length-append, length-map}
use lib.Dec.{eqb}
use borrow.Author.Tests.{eq-eqb, ne_eqb}
use Rattle.matching.specs.Received.{received, received_from}
use Rattle.matching.proofs.Received.{received_none, received-on}
use Rattle.fold.specs.Fold.{is_page, fold_on}
use Rattle.line_column.proofs.Lines.{line_first}
use Rattle.cues.specs.declared.Choice.{Choice}
use Rattle.cues.specs.Cue.{Cue}
use Rattle.line_column.specs.LineColumn.{last_of}
use Rattle.cue_book.specs.Reading.{cues, read_book, cues_in}
use Rattle.cue_book.proofs.Books.{left-all}
use Rattle.outcome.specs.Outcome.{Numbered, chosen, cues_of, place_before, Judged, judge, entries_of, reads_of, resolution}
use Rattle.outcome.proofs.Judging.{last-after, judge-end, judge-then, judge-no-further}
use Rattle.outcome.proofs.Placing.{entries-count, entries-then}
use Rattle.outcome.proofs.Grouping.{fit-few, Walked, walked_none, walked_next, reads-stop, reads_end}
use Rattle.resolver.specs.declared.GroupFound.{GroupFound}
use Rattle.resolver.specs.declared.Spot.{Spot}
use Rattle.resolver.specs.declared.Walk.{Walk}
use Rattle.resolver.specs.declared.Unresolved.{Unresolved}
use Rattle.matching.specs.declared.Fault.{Fault}
use Rattle.matching.specs.Results.{number_of}
use Rattle.matching.proofs.Find.{number-some}
use Rattle.line_column.specs.LineColumn.{line_column}
use Rattle.resolver.specs.Walking.{chosen_at, CuesLeft, Remaining, NextGroup, Searched, Passing, passing, PutAll, PutSome, Begun, GroupOf, GroupedAll, GroupedSome, Placed}
use Rattle.resolver.proofs.Gathering.{cues-left}
use Rattle.resolver.proofs.Searching.{judged}
use Rattle.resolver.proofs.Putting.{passing-count}

-- ---- a group, from what was found and what was put

module _ {who : Choice} {book : List ℕ} {number place count next end : ℕ} (n : NextGroup who book number place count next end) where
  pub group-size : length (cues_of n.group) ≡ count
  group-size = length-map n.group (λ (x : Numbered). x.cue) ∙ sym n.counted

  pub few-next : count ≤ 64
  few-next = omega (arith, group-size, fit-few (cues_of n.group) n.grouped.fit)

module _ (w : Walk) {who : Choice} {page : ℕ} {book copy scratch : List ℕ} {r : GroupFound} {scratch' left places numbers : List ℕ} (s : Searched who page book w.cursor.number w.cursor.place copy scratch r scratch' left places numbers) where
  abbrev lefts : List ℕ
  lefts = take r.count left

  abbrev stands : List ℕ
  stands = take r.count places

  abbrev passes : Passing
  passes = passing w.index w.spot.place lefts stands

  size-of : (passes.refusal ≡ 0 → length passes.places ≡ r.count) × ((passes.refusal ≡ 0 → ⊥) → length passes.places < r.count)
  size-of =
      let size = passing-count w.index w.spot.place lefts stands (s.lefts ∙ sym s.places) in
      (λ z. size.0 z ∙ s.lefts, λ some. omega (arith, size.1 some, s.lefts))

  read-all : (text : List ℕ) → copy ≡ map (fold_on page) text → r.reads ≡ length text
  read-all text e = s.reads ∙ ap length e ∙ length-map text (fold_on page)

  module _ {text entries : List ℕ} (e : copy ≡ map (fold_on page) text) where
    group-of : {refusal number : ℕ} {entries' : List ℕ} → passes.refusal ≡ refusal → cond (eqb passes.refusal 0) (w.index + length passes.places) (get_or (take r.count numbers) (length passes.places) 0) ≡ number
        → entries' ≡ received_from (3 * w.index) entries (entries_of text passes.places) → GroupOf who page book text scratch entries w r.count r.after.number r.after.place refusal number passes.places scratch' entries'
    group-of is names put =
        record {
          next-is = s.next;
          judged = λ found n k.
              judged (fold_on page) text w.index w.spot.place found lefts stands s.next.group n k (s.lefts ∙ s.next.counted) (s.places ∙ s.next.counted) (s.told text e)
              ∙ ap (λ (l : List ℕ). record { refusal = passes.refusal; number = cond (eqb passes.refusal 0) (w.index + length passes.places) (get_or l (length passes.places) 0); places = found ++ passes.places }) (sym s.numbers)
              ∙ ap₂ (λ (i m : ℕ). record { refusal = i; number = m; places = found ++ passes.places }) is names;
          entered = put;
          emptied = s.emptied;
        }

    pub grouped-all : {spot : Spot} {entries' : List ℕ} → PutAll text w.index lefts stands w.spot.place entries spot entries'
        → GroupedAll who page book text scratch entries w (record { cursor = r.after; index = w.index + r.count; reads = w.reads + r.reads; spot = spot }) scratch' entries'
    grouped-all put =
        let count = size-of.0 put.none in
        record {
          count = r.count;
          places = passes.places;
          group = group-of put.none (rw (eq-eqb passes.refusal 0 put.none) (ap (λ (k : ℕ). w.index + k) count)) put.entered;
          whole = count;
          index = refl;
          last = put.last;
          spot = put.spot;
          reads = omega (arith, read-all text e);
        }

    pub grouped-some : {f : Fault} {entries' : List ℕ} {reads : ℕ} → PutSome text w.index lefts stands (take r.count numbers) w.spot.place entries f entries' → reads ≡ w.reads + r.reads
        → GroupedSome who page book text scratch entries w (record { fault = f; reads = reads }) scratch' entries'
    grouped-some {f} put total =
        let some : passes.refusal ≡ 0 → ⊥ = λ z. omega (arith, put.refused, z, number-some f.refusal) in
        record {
          count = r.count;
          next = r.after.number;
          end = r.after.place;
          places = passes.places;
          group = group-of (sym put.refused) (rw (ne_eqb passes.refusal 0 some) (sym put.number)) put.entered;
          stopped = size-of.1 some;
          reads = omega (arith, read-all text e, total);
        }

-- ---- along the walk: the groups so far are walked and their entries put, and they and what the rest is judged are the whole

pub record Along (who : Choice) (page : ℕ) (book text : List ℕ) (xs : List Numbered) (entries₀ : List ℕ) (w : Walk) (entries : List ℕ) : Type 0 where
  pub done : List Numbered
  pub rest : List Numbered
  pub all : xs ≡ done ++ rest
  pub counted : w.index ≡ length done
  pub behind : w.index ≤ w.cursor.number
  pub left : CuesLeft who book w.cursor.number w.cursor.place rest
  pub full : List (List Cue)
  pub walked : Walked full (cues_of done) (cues_of rest)
  pub found : List ℕ
  pub placed : length found ≡ w.index
  pub last : w.spot.place ≡ place_before found
  pub spot : w.spot.at ≡ line_column text w.spot.place
  pub entered : entries ≡ received entries₀ (entries_of text found)
  pub whole : judge (fold_on page) text [] xs ≡ judge (fold_on page) text found rest
  pub reads-are : w.reads ≡ length text * length full

pub along-first : (who : Choice) (page : ℕ) (book text : List ℕ) (entries : List ℕ) {cs : List Cue} → read_book book ≡ cues cs
    → Along who page book text (chosen who cs) entries (record { cursor = record { number = 0; place = 0 }; index = 0; reads = 0; spot = record { place = 0; at = record { line = 1; column = 1 } } }) entries
unfolding entries_of
along-first who page book text entries {cs} e =
    record {
      done = [];
      rest = chosen who cs;
      all = refl;
      counted = refl;
      behind = omega arith;
      left = cues-left who (left-all e);
      full = [];
      walked = walked_none (cues_of (chosen who cs));
      found = [];
      placed = refl;
      last = refl;
      spot = line_first text;
      entered = sym (received_none entries);
      whole = refl;
      reads-are = omega arith;
    }

-- ---- the walk's answer

pub placed : {who : Choice} {page : ℕ} {book text scratch entries scratch' entries' places : List ℕ} {number index reads : ℕ}
    → judge (fold_on page) text [] (chosen who (cues_in (read_book book))) ≡ record { refusal = number; number = index; places = places }
    → reads_of text (record { refusal = number; number = index; places = places }) (cues_of (chosen who (cues_in (read_book book)))) ≡ reads
    → scratch' ≡ replicate (length scratch) 0 → entries' ≡ received entries (entries_of text places) → Placed who page book text scratch entries (record { refusal = number; number = index; reads = reads }) scratch' entries'
unfolding resolution
placed {who} {page} {book} {text} {scratch} {entries} {scratch'} {entries'} {places} {number} {index} {reads} e n s w =
    let xs : List Numbered = chosen who (cues_in (read_book book)) in
    let total : reads_of text (judge (fold_on page) text [] xs) (cues_of xs) ≡ reads = ap (λ (j : Judged). reads_of text j (cues_of xs)) e ∙ n in
    record {
      answer = ap₂ (λ (j : Judged) (k : ℕ). record { refusal = j.refusal; number = j.number; reads = k }) (sym e) (sym total);
      emptied = s;
      entered = w ∙ ap (λ (j : Judged). received entries (entries_of text j.places)) (sym e);
    }

-- the cues of two lists, one after the other
cues-append : (xs ys : List Numbered) → cues_of (xs ++ ys) ≡ cues_of xs ++ cues_of ys
cues-append xs ys = map-append (λ (x : Numbered). x.cue) xs ys

module _ {who : Choice} {page : ℕ} {book text : List ℕ} {xs : List Numbered} {entries₀ : List ℕ} {w : Walk} {entries : List ℕ} (d : Along who page book text xs entries₀ w entries) where
  abbrev f : ℕ → ℕ
  f = fold_on page

  size : length xs ≡ w.index + length d.rest
  size = ap length d.all ∙ length-append d.done d.rest ∙ omega (arith, d.counted)

  cues-done : length (cues_of d.done) ≡ w.index
  cues-done = length-map d.done (λ (x : Numbered). x.cue) ∙ sym d.counted

  -- a cue is left, and how many
  pub along-rest : w.index < length xs → Remaining who book w.cursor.number w.cursor.place
  along-rest h = record { left = record { few = d.left.few; reads = d.left.reads; are = refl }; some = omega (arith, size, h, ap length d.left.are) }

  pub along-left : {rest : ℕ} → rest ≡ length xs - w.index → rest ≡ length (chosen_at who book w.cursor.number w.cursor.place)
  along-left e = omega (arith, e, size, ap length d.left.are)

  -- the reads are few: no more groups than cues
  pub along-few : length text ≤ 32768 → w.reads ≤ 32735232
  along-few small =
      let groups : length d.full ≤ 999 = omega (arith, d.walked.few, cues-done, d.behind, d.left.few) in
      omega (arith, d.reads-are, mul-le-mul_left {m = length d.full} {n = 999} (length text) groups)

  -- no cue is left
  pub along-end : {scratch scratch' : List ℕ} → xs ≡ chosen who (cues_in (read_book book)) → length xs ≤ w.index → scratch' ≡ replicate (length scratch) 0
      → Placed who page book text scratch entries₀ (record { refusal = 0; number = w.index; reads = w.reads }) scratch' entries
  along-end {scratch} is h s =
      let none : d.rest ≡ [] = empty d.rest (omega (arith, size, h)) in
      let done : xs ≡ d.done = d.all ∙ ap (λ (l : List Numbered). d.done ++ l) none ∙ append-nil d.done in
      let j : Judged = record { refusal = 0; number = w.index; places = d.found } in
      let judged : judge f text [] xs ≡ j = d.whole ∙ ap (judge f text d.found) none ∙ judge-end f text d.found ∙ ap (λ (n : ℕ). record { refusal = 0; number = n; places = d.found }) d.placed in
      let total : reads_of text j (cues_of xs) ≡ w.reads =
      ap (λ (l : List Numbered). reads_of text j (cues_of l)) done
      ∙ reads_end (subst (λ (l : List Numbered). Walked d.full (cues_of d.done) (cues_of l)) none d.walked) text j (d.placed ∙ sym cues-done) ∙ sym d.reads-are in
      placed (subst (λ (l : List Numbered). judge f text [] l ≡ j) is judged) (subst (λ (l : List Numbered). reads_of text j (cues_of l) ≡ w.reads) is total) s d.entered
    where
      empty : (l : List Numbered) → length l ≡ 0 → l ≡ []
      empty [] e = refl
      empty (x ∷ l) e = absurd (omega arith)

  -- what the next group is asked for
  pub along-begun : {rest : ℕ} {copy scratch : List ℕ} → rest ≡ length xs - w.index → w.index < length xs → is_page page ≡ true → length text ≤ 32768 → copy ≡ map (fold_on page) text → 65535 ≤ length scratch
      → Begun who page book rest text copy scratch w
  along-begun e h known small copied room =
      record { remaining = along-rest h; rest-are = along-left e; behind = d.behind; known-page = known; small = small; copied = copied; room = room; few = along-few small; spot = d.spot }

  -- ---- the next group

  module _ {scratch scratch' entries' places : List ℕ} {count next end refusal number : ℕ} (g : GroupOf who page book text scratch entries w count next end refusal number places scratch' entries') where
    abbrev group : List Numbered
    group = g.next-is.group

    abbrev later : List Numbered
    later = g.next-is.later

    rest-split : d.rest ≡ group ++ later
    rest-split = sym d.left.are ∙ g.next-is.split

    on : Walked d.full (cues_of d.done) (cues_of group ++ cues_of later)
    on = subst (Walked d.full (cues_of d.done)) (ap cues_of rest-split ∙ cues-append group later) d.walked

    all_split : xs ≡ d.done ++ (group ++ later)
    all_split = d.all ∙ ap (λ (l : List Numbered). d.done ++ l) rest-split

    cues-split : cues_of xs ≡ cues_of d.done ++ (cues_of group ++ cues_of later)
    cues-split = ap cues_of all_split ∙ cues-append d.done (group ++ later) ∙ ap (λ (l : List Cue). cues_of d.done ++ l) (cues-append group later)

    some-cue : 1 ≤ count
    some-cue = omega (arith, group-size g.next-is, g.next-is.grouped.some)

    -- it is judged, and then the rest
    group-judged : judge f text d.found group ≡ record { refusal = refusal; number = number; places = d.found ++ places }
    group-judged = g.judged d.found (sym d.placed) d.last

    whole_split : judge f text [] xs ≡ judge f text d.found (group ++ later)
    whole_split = d.whole ∙ ap (judge f text d.found) rest-split

    -- the entries of its cues up to the first with a fault stand after those before
    puts-size : length (d.found ++ places) ≡ w.index + length places
    puts-size = length-append d.found places ∙ omega (arith, d.placed)

    entered-then : entries' ≡ received entries₀ (entries_of text (d.found ++ places))
    entered-then =
        g.entered ∙ ap (λ (l : List ℕ). received_from (3 * w.index) l (entries_of text places)) d.entered
        ∙ received-on 0 (3 * w.index) entries₀ (entries_of text d.found) (entries_of text places) (omega (arith, entries-count text d.found, d.placed))
        ∙ ap (received entries₀) (sym (entries-then text d.found places))

    -- one more group's reads
    reads_more : w.reads + length text ≡ length text * suc (length d.full)
    reads_more = omega (arith, d.reads-are, mul-add (length text) (length d.full) 1)

  -- no cue of it has a fault
  pub along-next : {scratch scratch' entries' : List ℕ} {w' : Walk} → GroupedAll who page book text scratch entries w w' scratch' entries' → Along who page book text xs entries₀ w' entries' × (w.index < w'.index)
  along-next {entries' = entries'} {w' = w'} a =
      let g = a.group in
      let put : w'.index ≡ w.index + length (group g) = a.index ∙ ap (λ (k : ℕ). w.index + k) g.next-is.counted in
      let none : (judge f text d.found (group g)).refusal ≡ 0 = ap (λ (j : Judged). j.refusal) (group-judged g) in
      let along : Along who page book text xs entries₀ w' entries' = record {
        done = d.done ++ group g;
        rest = later g;
        all = all_split g ∙ sym (append_assoc d.done (group g) (later g));
        counted = omega (arith, put, d.counted, length-append d.done (group g));
        behind = omega (arith, a.index, g.next-is.passed, d.behind);
        left = g.next-is.left;
        full = d.full ++ cues_of (group g) ∷ [];
        walked = subst (λ (l : List Cue). Walked (d.full ++ cues_of (group g) ∷ []) l (cues_of (later g))) (sym (cues-append d.done (group g))) (walked_next g.next-is.grouped (on g));
        found = d.found ++ a.places;
        placed = puts-size g ∙ omega (arith, a.whole, a.index);
        last = a.last ∙ ap (λ (k : ℕ). last_of k a.places) d.last ∙ sym (last-after 0 d.found a.places);
        spot = a.spot;
        entered = entered-then g;
        whole = whole_split g ∙ judge-then f text d.found (group g) (later g) none ∙ ap (λ (j : Judged). judge f text j.places (later g)) (group-judged g);
        reads-are = a.reads ∙ reads_more g ∙ ap (λ (k : ℕ). length text * k) (sym (length-append d.full (cues_of (group g) ∷ []) ∙ omega arith));
      } in
      (along, omega (arith, a.index, some-cue g))

  -- one has
  pub along-stop : {scratch scratch' entries' : List ℕ} {u : Unresolved} → GroupedSome who page book text scratch entries w u scratch' entries' → xs ≡ chosen who (cues_in (read_book book)) → {scratch₀ : List ℕ} → scratch' ≡ replicate (length scratch₀) 0
      → Placed who page book text scratch₀ entries₀ (record { refusal = number_of u.fault.refusal; number = u.fault.number; reads = u.reads }) scratch' entries'
  along-stop {u = u} a is s =
      let g = a.group in
      let refusal : ℕ = number_of u.fault.refusal in
      let some : refusal ≡ 0 → ⊥ = λ z. omega (arith, z, number-some u.fault.refusal) in
      let j : Judged = record { refusal = refusal; number = u.fault.number; places = d.found ++ a.places } in
      let fault : (judge f text d.found (group g)).refusal ≡ 0 → ⊥ = λ z. some (sym (ap (λ (j : Judged). j.refusal) (group-judged g)) ∙ z) in
      let judged : judge f text [] xs ≡ j = whole_split g ∙ judge-no-further f text d.found (group g) (later g) fault ∙ group-judged g in
      let inside : length a.places < length (cues_of (group g)) = omega (arith, a.stopped, group-size g.next-is) in
      let total : reads_of text j (cues_of xs) ≡ u.reads = ap (reads_of text j) (cues-split g) ∙ reads-stop g.next-is.grouped (on g) text j inside (puts-size g ∙ omega (arith, cues-done)) ∙ sym (reads_more g) ∙ sym a.reads in
      placed (subst (λ (l : List Numbered). judge f text [] l ≡ j) is judged) (subst (λ (l : List Numbered). reads_of text j (cues_of l) ≡ u.reads) is total) s (entered-then g)
