-- A group read from the book: the next cue that is chosen, what is known cue by cue, and where the group ends. Assumes nothing.
use mathlib.Core.Path.{◌≡◌, refl, sym, ap, ap₂, subst, ◌∙◌}
use Prim.Native.Nat.{ℕ, ◌+◌, ◌-◌, ◌≤◌, ◌<◌}
use native.Mathlib.Omega.{arith}
use native.Mathlib.Numerals.{add-one}
use mathlib.Core.Bool.{Bool, true, false, true≢false}
use mathlib.Core.List.{List, [], ◌∷◌, ◌++◌, map-append, append_assoc}
use lib.ListN.{length, take, drop, set, length-append, length-drop, length-map}
use lib.Seq.{length-take-le}
use borrow.Author.Tests.{eqb-false}
use Rattle.matching.specs.Received.{received}
use Rattle.matching.proofs.Refusals.{Passed, numbers_to, all-passed}
use Rattle.matching.proofs.Received.{received_none, received_more, received-whole}
use Rattle.matching.proofs.Those.{those-nothing, those-next, those-skip}
use Rattle.cue_fields.specs.declared.Due.TheVariants.{Ordinal}
use Rattle.cue_fields.specs.Field.{number_in, field_body, after_field, value_tests, bytes_in}
use Rattle.cues.specs.declared.Cue as found
use Rattle.cues.specs.declared.Choice.{Choice}
use Rattle.matching.proofs.CaseAnalysis.{by-test, both}
use Rattle.std.specs.Prelude.{◌&&◌}
use Rattle.std.specs.Int.{from_bool}
use Rattle.cues.specs.Cue.{Cue, is_chosen, days_hold, plays_on, sees, seen_by}
use Rattle.cues.specs.Reading.{cue_refusal, cue_size, cue_of}
use Rattle.cues.proofs.Cues.{cue-ordinal, ordinal-body, CueAt, phrase-inside}
use Rattle.cue_book.specs.Reading.{read_up_to, seen, cues_in}
use Rattle.cue_book.proofs.Books.{read-end, Left, First, left-first, left-same}
use Rattle.outcome.specs.Outcome.{Numbered, chosen_from, cues_of, letters, fitting, fits}
use Rattle.outcome.proofs.Choosing.{chosen_none, chosen-plays, chosen-not}
use Rattle.outcome.proofs.Grouping.{fitting-most, fitting-when, fit-when, letters-more}
use Rattle.resolver.specs.declared.NextCue.{NextCue}
use Rattle.resolver.specs.Walking.{rest_at, chosen_at, CuesLeft, Remaining, Held, cues_held, starts_of, lens_of, ordinals_of, numbers_of, NextRead, Gatherable, Gathered}

-- ---- the cues that are left

pub left-of : {who : Choice} {book : List ℕ} {number place : ℕ} {xs : List Numbered} → CuesLeft who book number place xs → Left book number place (rest_at book number place)
left-of {who} {book} {number} l = record { more = 999 - number; count = omega (arith, l.few); reads = l.reads }

pub cues-left : {book : List ℕ} {number place : ℕ} {rest : List Cue} (who : Choice) → Left book number place rest → CuesLeft who book number place (chosen_from who.day number (seen who.role rest))
cues-left {book} {number} {place} who l =
    let more : 999 - number ≡ l.more = omega (arith, l.count) in
    let reads = ap (λ (n : ℕ). read_up_to n number (drop place book)) more ∙ l.reads in
    let is = ap cues_in reads in
    record { few = omega (arith, l.count); reads = rw is reads; are = ap (λ (cs : List Cue). chosen_from who.day number (seen who.role cs)) is }

-- ---- a cue, as it stands in the book

-- the first of the cues that are left
pub record Next (book : List ℕ) (number place : ℕ) (rest : List Cue) : Type 0 where
  pub cue : Cue
  pub later : List Cue
  pub is : rest ≡ cue ∷ later
  pub begun : First book number place cue later

next-cue : (rest : List Cue) {book : List ℕ} {number place : ℕ} → 1 ≤ length rest → Left book number place rest → Next book number place rest
next-cue [] h l = absurd (omega arith)
next-cue (c ∷ later) h l = record { cue = c; later = later; is = refl; begun = left-first l }

-- an ordinal is at least 1
ordinal-some : (rest : List ℕ) → cue_refusal rest ≡ 0 → 1 ≤ (cue_of rest).ordinal
unfolding Passed numbers_to
ordinal-some rest e =
    let body : List ℕ = field_body (after_field rest) in
    omega (arith, eqb-false (number_in body) 0 (all-passed 9 (value_tests Ordinal body) refl (cue-ordinal rest e).value).0, ordinal-body rest)

module _
    {book : List ℕ}
    {number place : ℕ}
    {rest : List Cue}
    {read : found.Cue}
    (n : Next book number place rest)
    (c : CueAt book place read)
  where
    -- its phrase, the phrase's length, its ordinal, its days and its mark are those that were read
    phrase-read : bytes_in book read.phrase ≡ n.cue.phrase
    phrase-read = ap (λ (x : Cue). x.phrase) (c.meant ∙ n.begun.cue)

    ordinal-read : read.ordinal ≡ n.cue.ordinal
    ordinal-read = ap (λ (x : Cue). x.ordinal) (c.meant ∙ n.begun.cue)

    days-read : (day : ℕ) → days_hold day read.days ≡ plays_on day n.cue
    days-read day = ap (λ (x : Cue). plays_on day x) (c.meant ∙ n.begun.cue)

    mark-read : (role : ℕ) → sees role read.mark ≡ seen_by role n.cue
    mark-read role = ap (λ (x : Cue). seen_by role x) (c.meant ∙ n.begun.cue)

    length-read : read.phrase.end - read.phrase.start ≡ length n.cue.phrase
    length-read =
        let i = phrase-inside c in
        sym (length-take-le (read.phrase.end - read.phrase.start) (drop read.phrase.start book) (omega (arith, i.inside, i.ordered, length-drop read.phrase.start book))) ∙ ap length phrase-read

    held-here : Held book
    held-here =
        let i = phrase-inside c in
        record {
          start = read.phrase.start;
          cue = n.cue;
          letters = ap (λ (k : ℕ). take k (drop read.phrase.start book)) (sym length-read) ∙ phrase-read;
          inside = omega (arith, length-read, i.inside, i.ordered);
          some = omega (arith, length-read, i.some);
          named = subst (λ (x : Cue). 1 ≤ x.ordinal) n.begun.cue (ordinal-some (drop place book) c.none);
        }

-- ---- on to the next cue that is chosen

-- so far none was: those left at a place are those left where it began, and the next that the role sees has that number
pub record Skips (who : Choice) (book : List ℕ) (number place index at : ℕ) : Type 0 where
  pub rest : List Cue
  pub left : Left book index at rest
  pub same : chosen_at who book number place ≡ chosen_from who.day index (seen who.role rest)
  pub passed : number ≤ index

pub skips-none : {who : Choice} {book : List ℕ} {number place : ℕ} → Remaining who book number place → Skips who book number place number place
skips-none {who} {book} {number} {place} r = record { rest = rest_at book number place; left = left-of r.left; same = refl; passed = omega arith }

module _ {who : Choice} {book : List ℕ} {number place index at : ℕ} (r : Remaining who book number place) (s : Skips who book number place index at) where
  -- a cue is left
  rest_some : 1 ≤ length s.rest
  rest_some = some s.rest s.same
    where
      some : (rest : List Cue) → chosen_at who book number place ≡ chosen_from who.day index (seen who.role rest) → 1 ≤ length rest
      some [] e = absurd (omega (arith, r.some, ap length (e ∙ ap (chosen_from who.day index) (those-nothing (seen_by who.role)) ∙ chosen_none who.day index)))
      some (c ∷ cs) e = omega arith

  pub skips-next : Next book index at s.rest
  skips-next = next-cue s.rest rest_some s.left

  -- so the book has not ended
  pub skips-inside : length book ≤ at → ⊥
  skips-inside h = omega (arith, rest_some, ap (λ (l : List Cue). length l) (sym none))
    where
      none : [] ≡ s.rest
      none = sym (ap cues_in (read-end s.left.more index (drop at book) (omega (arith, h, length-drop at book)))) ∙ ap cues_in s.left.reads

  pub skips-few : index < 999
  skips-few = omega (arith, (skips-next.begun.then refl).count)

  module _ {read : found.Cue} (c : CueAt book at read) where
    -- where it ends
    ends : read.end ≡ at + cue_size (drop at book)
    ends = ap (λ (x : found.Cue). x.end) c.is

    abbrev next : Next book index at s.rest
    next = skips-next

    -- the role does not see this one, so that it has no number
    pub skips-unseen : sees who.role read.mark ≡ false → Skips who book number place index read.end
    skips-unseen e =
        record {
          rest = next.later;
          left = left-same (next.begun.then ends);
          same = s.same ∙ ap (chosen_from who.day index) (ap (seen who.role) next.is ∙ those-skip (seen_by who.role) next.cue next.later (sym (mark-read next c who.role) ∙ e));
          passed = s.passed;
        }

    module _ (seen-here : sees who.role read.mark ≡ true) where
      -- the role sees it, and then the others
      first-seen : chosen_at who book number place ≡ chosen_from who.day index (next.cue ∷ seen who.role next.later)
      first-seen =
          s.same
          ∙ ap (chosen_from who.day index) (ap (seen who.role) next.is ∙ those-next (seen_by who.role) next.cue next.later (sym (mark-read next c who.role) ∙ seen-here))

      -- it does not play
      pub skips-more : days_hold who.day read.days ≡ false → Skips who book number place (index + 1) read.end
      skips-more e =
          record {
            rest = next.later;
            left = next.begun.then ends;
            same =
                first-seen ∙ chosen-not who.day index next.cue (seen who.role next.later) (sym (days-read next c who.day) ∙ e)
                ∙ ap (λ (k : ℕ). chosen_from who.day k (seen who.role next.later)) (sym (add-one index));
            passed = omega (arith, s.passed);
          }

      -- it does
      pub skips-end : days_hold who.day read.days ≡ true
          → NextRead who book number place (record { number = index; phrase = read.phrase; ordinal = read.ordinal; end = read.end })
      unfolding held-here
      skips-end e =
          let i = phrase-inside c in
          record {
            held = held-here next c;
            later = chosen_from who.day (index + 1) (seen who.role next.later);
            split =
                first-seen ∙ chosen-plays who.day index next.cue (seen who.role next.later) (sym (days-read next c who.day) ∙ e)
                ∙ ap (λ (k : ℕ). record { number = index; cue = next.cue } ∷ chosen_from who.day k (seen who.role next.later)) (sym (add-one index));
            start = refl;
            stop = omega (arith, length-read next c, i.ordered);
            short = omega (arith, length-read next c, i.short);
            ordinal = ordinal-read next c;
            passed = s.passed;
            left = cues-left who (next.begun.then ends);
          }

    -- it is chosen
    pub skips-chosen : is_chosen who read.mark read.days ≡ true → NextRead who book number place (record { number = index; phrase = read.phrase; ordinal = read.ordinal; end = read.end })
    skips-chosen e = let b = both (sees who.role read.mark) (days_hold who.day read.days) e in skips-end b.0 b.1

    -- it is not, and counts where the role sees it
    pub skips-on : is_chosen who read.mark read.days ≡ false → {next : ℕ} → next ≡ index + from_bool (sees who.role read.mark) → Skips who book number place next read.end
    skips-on e {next} n =
        by-test (λ t. (t && days_hold who.day read.days ≡ false) → next ≡ index + from_bool t → Skips who book number place next read.end) (sees who.role read.mark)
        (λ seen-here h k. subst (λ (i : ℕ). Skips who book number place i read.end) (sym k) (skips-more seen-here h))
        (λ unseen h k. subst (λ (i : ℕ). Skips who book number place i read.end) (omega (arith, k)) (skips-unseen unseen))
        e n

-- a number that is few stays so where a test is counted
pub few-more : {index n : ℕ} (t : Bool) → index < 999 → n ≡ from_bool t → index + n ≤ 999
few-more true h e = omega (arith, h, e)
few-more false h e = omega (arith, h, e)

-- ---- along the group

pub record Gathers (who : Choice) (book : List ℕ) (number place : ℕ) (starts₀ lens₀ ordinals₀ numbers₀ : List ℕ) (count sum next end : ℕ) (starts lens ordinals numbers : List ℕ) : Type 0 where
  pub items : List Numbered
  pub held : List (Held book)
  pub cues : cues_of items ≡ cues_held held
  pub later : List Numbered
  pub split : chosen_at who book number place ≡ items ++ later
  pub counted : count ≡ length items
  pub passed : number + count ≤ next
  pub left : CuesLeft who book next end later
  pub summed : sum ≡ letters (cues_of items)
  pub few : count ≤ 64
  pub short : sum ≤ 4096
  pub starts-are : starts ≡ received starts₀ (starts_of held)
  pub lens-are : lens ≡ received lens₀ (lens_of held)
  pub ordinals-are : ordinals ≡ received ordinals₀ (ordinals_of held)
  pub numbers-are : numbers ≡ received numbers₀ (numbers_of items)

pub gathers-none : {who : Choice} {book : List ℕ} {number place : ℕ} {starts lens ordinals numbers : List ℕ} → Remaining who book number place
    → Gathers who book number place starts lens ordinals numbers 0 0 number place starts lens ordinals numbers
unfolding letters
gathers-none {who} {book} {number} {place} {starts} {lens} {ordinals} {numbers} r =
    record {
      items = [];
      held = [];
      cues = refl;
      later = chosen_at who book number place;
      split = refl;
      counted = refl;
      passed = omega arith;
      left = r.left;
      summed = refl;
      few = omega arith;
      short = omega arith;
      starts-are = sym (received_none starts);
      lens-are = sym (received_none lens);
      ordinals-are = sym (received_none ordinals);
      numbers-are = sym (received_none numbers);
    }

-- one entry more
put-more : (list values : List ℕ) (k x : ℕ) → k ≡ length values → set (received list values) k x ≡ received list (values ++ x ∷ [])
put-more list values k x e = ap (λ (i : ℕ). set (received list values) i x) e ∙ received_more list values x

module _ {who : Choice} {book : List ℕ} {number place : ℕ} {starts₀ lens₀ ordinals₀ numbers₀ : List ℕ} {count sum next end : ℕ} {starts lens ordinals numbers : List ℕ} (g : Gathers who book number place starts₀ lens₀ ordinals₀ numbers₀ count sum next end starts lens ordinals numbers) where
  all_left : length (chosen_at who book number place) ≡ count + length g.later
  all_left = ap length g.split ∙ length-append g.items g.later ∙ omega (arith, g.counted)

  -- as many are held
  held-size : count ≡ length g.held
  held-size =
      omega
      (arith, g.counted, ap length g.cues, length-map g.items (λ (x : Numbered). x.cue), length-map g.held (λ (h : Held book). h.cue))

  -- a cue is left
  pub gathers-cue : count < length (chosen_at who book number place) → Remaining who book next end
  gathers-cue h = record { left = record { few = g.left.few; reads = g.left.reads; are = refl }; some = omega (arith, all_left, ap length g.left.are) }

  -- where it ends: the arrays' first entries are the group's
  ended : 1 ≤ count → (1 ≤ length (cues_of g.later) → fits (cues_of g.items ++ take 1 (cues_of g.later)) ≡ false) → 64 ≤ length starts₀ → 64 ≤ length lens₀ → 64 ≤ length ordinals₀ → 64 ≤ length numbers₀
      → Gathered who book number place (record { count = count; after = record { number = next; place = end } }) starts lens ordinals numbers
  ended some closed s l o m =
      let hs : List (Held book) = g.held in
      let size : length (cues_of g.items) ≡ count = length-map g.items (λ (x : Numbered). x.cue) ∙ sym g.counted in
      record {
        next =
            record {
              group = g.items;
              later = g.later;
              split = g.split;
              grouped = record { some = omega (arith, size, some); fit = fit-when (cues_of g.items) (omega (arith, size, g.few)) (omega (arith, g.summed, g.short)); closed = closed };
              counted = g.counted;
              passed = g.passed;
              left = g.left;
            };
        held = hs;
        cues = g.cues;
        starts = front starts₀ (starts_of hs) g.starts-are (length-map hs (λ (h : Held book). h.start) ∙ sym held-size) s;
        lens = front lens₀ (lens_of hs) g.lens-are (length-map hs (λ (h : Held book). length h.cue.phrase) ∙ sym held-size) l;
        ordinals = front ordinals₀ (ordinals_of hs) g.ordinals-are (length-map hs (λ (h : Held book). h.cue.ordinal) ∙ sym held-size) o;
        numbers = front numbers₀ (numbers_of g.items) g.numbers-are (length-map g.items (λ (x : Numbered). x.number) ∙ sym g.counted) m;
      }
    where
      front : {list : List ℕ} (list₀ values : List ℕ) → list ≡ received list₀ values → length values ≡ count → 64 ≤ length list₀ → take count list ≡ values
      front {list} list₀ values e size room = ap₂ (λ (k : ℕ) (l : List ℕ). take k l) (sym size) e ∙ received-whole list₀ values (omega (arith, size, g.few, room))

  module _ {rest : ℕ} (lent : Gatherable who book number rest place starts₀ lens₀ ordinals₀ numbers₀) where
    -- no cue is left
    pub gathered-all : rest ≡ count → Gathered who book number place (record { count = rest; after = record { number = next; place = end } }) starts lens ordinals numbers
    gathered-all all =
        subst (λ (k : ℕ). Gathered who book number place (record { count = k; after = record { number = next; place = end } }) starts lens ordinals numbers) (sym all)
        (ended
        (omega (arith, all, lent.remaining.some, lent.rest-are))
        (λ h. absurd (omega (arith, all, all_left, lent.rest-are, length-map g.later (λ (x : Numbered). x.cue))))
        lent.starts-room
        lent.lens-room
        lent.ordinals-room
        lent.numbers-room)

    module _ {r : NextCue} (n : NextRead who book next end r) where
      -- the cue is the first of those left
      abbrev this : Numbered
      this = record { number = r.number; cue = n.held.cue }

      first-left : g.later ≡ this ∷ n.later
      first-left = sym g.left.are ∙ n.split

      len_is : r.phrase.end - r.phrase.start ≡ length n.held.cue.phrase
      len_is = omega (arith, n.stop)

      -- it does not fit
      pub gathered-full : fitting (count + 1) (sum + (r.phrase.end - r.phrase.start)) ≡ false → Gathered who book number place (record { count = count; after = record { number = next; place = end } }) starts lens ordinals numbers
      unfolding letters
      gathered-full full =
          let group : List Cue = cues_of g.items ++ take 1 (cues_of g.later) in
          let first : take 1 (cues_of g.later) ≡ n.held.cue ∷ [] = ap (λ (l : List Numbered). take 1 (cues_of l)) first-left in
          let cues : count + 1 ≡ length group = omega (arith, length-append (cues_of g.items) (take 1 (cues_of g.later)), g.counted, length-map g.items (λ (x : Numbered). x.cue), ap length first) in
          let bytes : sum + (r.phrase.end - r.phrase.start) ≡ letters group = omega (arith, letters-more (cues_of g.items) (take 1 (cues_of g.later)), g.summed, len_is, ap letters first) in
          ended (some g.items g.summed g.counted) (λ _. ap₂ fitting (sym cues) (sym bytes) ∙ full) lent.starts-room lent.lens-room lent.ordinals-room lent.numbers-room
        where
          -- one cue by itself does
          some : (xs : List Numbered) → sum ≡ letters (cues_of xs) → count ≡ length xs → 1 ≤ count
          some [] e k = absurd (true≢false (sym fit-one ∙ full))
            where
              fit-one : fitting (count + 1) (sum + (r.phrase.end - r.phrase.start)) ≡ true
              fit-one = fitting-when (count + 1) (sum + (r.phrase.end - r.phrase.start)) (omega (arith, k)) (omega (arith, e, len_is, n.short))
          some (x ∷ xs) e k = omega (arith, k)

      -- it is gathered
      pub gathers-next : {sum' : ℕ} → sum' ≡ sum + (r.phrase.end - r.phrase.start) → fitting (count + 1) sum' ≡ true
          → Gathers who book number place starts₀ lens₀ ordinals₀ numbers₀ (count + 1) sum' (r.number + 1) r.end (set starts count r.phrase.start) (set lens count (r.phrase.end - r.phrase.start)) (set ordinals count r.ordinal) (set numbers count r.number)
      unfolding letters
      gathers-next {sum'} e h =
          let xs : List Numbered = g.items in
          let hs : List (Held book) = g.held in
          let more = map-append (λ (x : Numbered). x.cue) xs (this ∷ []) in
          let moreh = map-append (λ (x : Held book). x.cue) hs (n.held ∷ []) in
          record {
            items = xs ++ this ∷ [];
            held = hs ++ n.held ∷ [];
            cues = more ∙ ap (λ (l : List Cue). l ++ n.held.cue ∷ []) g.cues ∙ sym moreh;
            later = n.later;
            split = g.split ∙ ap (λ (l : List Numbered). xs ++ l) first-left ∙ sym (append_assoc xs (this ∷ []) n.later);
            counted = omega (arith, g.counted, length-append xs (this ∷ []));
            passed = omega (arith, g.passed, n.passed);
            left = n.left;
            summed = omega (arith, e, g.summed, len_is, ap letters more, letters-more (cues_of xs) (n.held.cue ∷ []));
            few = (fitting-most (count + 1) sum' h).0;
            short = (fitting-most (count + 1) sum' h).1;
            starts-are =
                ap₂ (λ (l : List ℕ) (x : ℕ). set l count x) g.starts-are n.start
                ∙ put-more starts₀ (starts_of hs) count n.held.start (held-size ∙ sym (length-map hs (λ (x : Held book). x.start)))
                ∙ ap (received starts₀) (sym (map-append (λ (x : Held book). x.start) hs (n.held ∷ [])));
            lens-are =
                ap₂ (λ (l : List ℕ) (x : ℕ). set l count x) g.lens-are len_is
                ∙ put-more lens₀ (lens_of hs) count (length n.held.cue.phrase) (held-size ∙ sym (length-map hs (λ (x : Held book). length x.cue.phrase)))
                ∙ ap (received lens₀) (sym (map-append (λ (x : Held book). length x.cue.phrase) hs (n.held ∷ [])));
            ordinals-are =
                ap₂ (λ (l : List ℕ) (x : ℕ). set l count x) g.ordinals-are n.ordinal
                ∙ put-more ordinals₀ (ordinals_of hs) count n.held.cue.ordinal (held-size ∙ sym (length-map hs (λ (x : Held book). x.cue.ordinal)))
                ∙ ap (received ordinals₀) (sym (map-append (λ (x : Held book). x.cue.ordinal) hs (n.held ∷ [])));
            numbers-are =
                ap (λ (l : List ℕ). set l count r.number) g.numbers-are
                ∙ put-more numbers₀ (numbers_of xs) count r.number (g.counted ∙ sym (length-map xs (λ (x : Numbered). x.number)))
                ∙ ap (received numbers₀) (sym (map-append (λ (x : Numbered). x.number) xs (this ∷ [])));
          }
