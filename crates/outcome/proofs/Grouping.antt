-- The groups: they are the cues in their order, each has a cue and fits, none has room for the next cue (`book-grouped`), no others are so (`groups-only`), and a cue's group does not depend on what
-- follows (`group_of`). And a walk by groups: where it stands in the groups, and how often it has read the text when it ends or stops at a cue. Assumes nothing.
use mathlib.Core.Path.{◌≡◌, refl, sym, ap, ap₂, subst, ◌∙◌}
use Prim.Native.Nat.{ℕ, zero, suc, ◌+◌, ◌*◌, ◌≤◌, ◌<◌}
use native.Mathlib.Omega.{arith}
use mathlib.Core.Bool.{Bool, true, false, cond, ◌&&◌}
use mathlib.Core.List.{List, [], ◌∷◌, ◌++◌, append_assoc, append-nil}
use lib.ListN.{length, take, drop, length-append, length-take, take-append-drop}
use lib.Seq.{take_all, take-append-le}
use lib.Dec.{leb}
use borrow.Author.Tests.{leb-true, le-leb}
use Rattle.matching.specs.Joined.{those}
use Rattle.matching.proofs.CaseAnalysis.{by-test, both}
use Rattle.cue_fields.specs.Field.{field_length}
use Rattle.cue_fields.specs.Form.{form_bodies}
use Rattle.cues.specs.declared.Choice.{Choice}
use Rattle.cues.specs.Cue.{Cue, plays_on, seen_by}
use Rattle.cues.specs.Reading.{cue_refusal, cue_of}
use Rattle.cues.proofs.Cues.{cue-phrase}
use Rattle.cue_book.specs.Reading.{cues, read_book, seen, playing_for}
use Rattle.cue_book.proofs.Books.{Left, left-all, left-first}
use Rattle.outcome.specs.Outcome.{letters, few, short, fitting, fits, groups_after, groups, Judged, judged_count, judged_of, reads_of}
use Rattle.outcome.specs.Told.{joined, AllSome, AllFit, AllFull, Grouping, Group, Holds, GroupOf, group_number}

-- ---- what fits is 64 cues and 4,096 phrase bytes at the most, and what is no more fits

pub fitting-most : (count bytes : ℕ) → fitting count bytes ≡ true → (count ≤ 64) × (bytes ≤ 4096)
fitting-most count bytes e =
    let h = both (few count) (short bytes) e in
    let most = leb-true count _ h.0 in
    let most₂ = leb-true bytes _ h.1 in
    (omega (arith, most), omega (arith, most₂))

pub fit-few : (g : List Cue) → fits g ≡ true → length g ≤ 64
fit-few g e = (fitting-most (length g) (letters g) e).0

pub fit-short : (g : List Cue) → fits g ≡ true → letters g ≤ 4096
fit-short g e = (fitting-most (length g) (letters g) e).1

pub fitting-when : (count bytes : ℕ) → count ≤ 64 → bytes ≤ 4096 → fitting count bytes ≡ true
fitting-when count bytes h k = ap₂ (λ (s t : Bool). s && t) (le-leb count _ (omega (arith, h))) (le-leb bytes _ (omega (arith, k)))

pub fit-when : (g : List Cue) → length g ≤ 64 → letters g ≤ 4096 → fits g ≡ true
fit-when g = fitting-when (length g) (letters g)

-- ---- the next cue

group-more : (g : List Cue) (c : Cue) (cs : List Cue) → fits (g ++ c ∷ []) ≡ true → groups_after g (c ∷ cs) ≡ groups_after (g ++ c ∷ []) cs
unfolding groups_after
group-more g c cs e = ap (λ (t : Bool). cond t (groups_after (g ++ c ∷ []) cs) (g ∷ groups_after (c ∷ []) cs)) e

group-anew : (g : List Cue) (c : Cue) (cs : List Cue) → fits (g ++ c ∷ []) ≡ false → groups_after g (c ∷ cs) ≡ g ∷ groups_after (c ∷ []) cs
unfolding groups_after
group-anew g c cs e = ap (λ (t : Bool). cond t (groups_after (g ++ c ∷ []) cs) (g ∷ groups_after (c ∷ []) cs)) e

group-last : (g : List Cue) → groups_after g [] ≡ g ∷ []
unfolding groups_after
group-last g = refl

-- ---- cues that fit join the begun group; one that does not begins the groups of the rest

pub letters-more : (g h : List Cue) → letters (g ++ h) ≡ letters g + letters h
unfolding letters
letters-more [] h = omega arith
letters-more (c ∷ g) h = omega (arith, letters-more g h)

fits-front : (g h : List Cue) → fits (g ++ h) ≡ true → fits g ≡ true
fits-front g h e = fit-when g (omega (arith, fit-few (g ++ h) e, length-append g h)) (omega (arith, fit-short (g ++ h) e, letters-more g h))

group-joins : (g h cs : List Cue) → fits (g ++ h) ≡ true → groups_after g (h ++ cs) ≡ groups_after (g ++ h) cs
group-joins g [] cs e = ap (λ (l : List Cue). groups_after l cs) (sym (append-nil g))
group-joins g (c ∷ h) cs e =
    let same : (g ++ c ∷ []) ++ h ≡ g ++ c ∷ h = append_assoc g (c ∷ []) h in
    let whole : fits ((g ++ c ∷ []) ++ h) ≡ true = ap fits same ∙ e in
    group-more g c (h ++ cs) (fits-front (g ++ c ∷ []) h whole) ∙ group-joins (g ++ c ∷ []) h cs whole ∙ ap (λ (l : List Cue). groups_after l cs) same

-- ---- the begun group comes first

record First (g : List Cue) (gs : List (List Cue)) : Type 0 where
  back : List Cue
  others : List (List Cue)
  is : gs ≡ (g ++ back) ∷ others

first_group : (g cs : List Cue) → First g (groups_after g cs)
first_group g [] = record { back = []; others = []; is = group-last g ∙ ap (λ (l : List Cue). l ∷ []) (sym (append-nil g)) }
first_group g (c ∷ cs) =
    by-test (λ _. First g (groups_after g (c ∷ cs))) (fits (g ++ c ∷ []))
    (λ t. let r = first_group (g ++ c ∷ []) cs in record { back = c ∷ r.back; others = r.others; is = group-more g c cs t ∙ r.is ∙ ap (λ (l : List Cue). l ∷ r.others) (append_assoc g (c ∷ []) r.back) })
    (λ t. record { back = []; others = groups_after (c ∷ []) cs; is = group-anew g c cs t ∙ ap (λ (l : List Cue). l ∷ groups_after (c ∷ []) cs) (sym (append-nil g)) })

-- ---- the groups are the cues in their order

joined-after : (g cs : List Cue) → joined (groups_after g cs) ≡ g ++ cs
unfolding joined
joined-after g [] = ap joined (group-last g)
joined-after g (c ∷ cs) =
    by-test (λ _. joined (groups_after g (c ∷ cs)) ≡ g ++ c ∷ cs) (fits (g ++ c ∷ []))
    (λ t. ap joined (group-more g c cs t) ∙ joined-after (g ++ c ∷ []) cs ∙ append_assoc g (c ∷ []) cs)
    (λ t. ap joined (group-anew g c cs t) ∙ ap (λ (l : List Cue). g ++ l) (joined-after (c ∷ []) cs))

groups-joined : (cs : List Cue) → joined (groups cs) ≡ cs
unfolding joined groups
groups-joined [] = refl
groups-joined (c ∷ cs) = joined-after (c ∷ []) cs

-- ---- each has a cue

some_after : (g cs : List Cue) → 1 ≤ length g → AllSome (groups_after g cs)
unfolding AllSome
some_after g [] h = subst AllSome (sym (group-last g)) (h, tt)
some_after g (c ∷ cs) h =
    by-test (λ _. AllSome (groups_after g (c ∷ cs))) (fits (g ++ c ∷ []))
    (λ t. subst AllSome (sym (group-more g c cs t)) (some_after (g ++ c ∷ []) cs (omega (arith, length-append g (c ∷ [])))))
    (λ t. subst AllSome (sym (group-anew g c cs t)) (h, some_after (c ∷ []) cs (omega arith)))

groups-some : (cs : List Cue) → AllSome (groups cs)
unfolding AllSome groups
groups-some [] = tt
groups-some (c ∷ cs) = some_after (c ∷ []) cs (omega arith)

-- ---- each fits, since each cue by itself does: a book's phrases have at most 1,024 bytes

unfoldable EachFits : List Cue → Type 0
EachFits [] = Unit {0}
EachFits (c ∷ cs) = (fits (c ∷ []) ≡ true) × EachFits cs

phrase-short : (rest : List ℕ) → cue_refusal rest ≡ 0 → length (cue_of rest).phrase ≤ 1024
unfolding cue_of form_bodies
phrase-short rest e =
    let lengths = both (leb 1 (field_length rest)) (leb (field_length rest) 1024) (cue-phrase rest e).lengths in
    let short = leb-true (field_length rest) 1024 lengths.1 in
    omega (arith, short, length-take (field_length rest) (drop 3 rest))

cue-fits : (c : Cue) → length c.phrase ≤ 1024 → fits (c ∷ []) ≡ true
unfolding letters
cue-fits c h = fit-when (c ∷ []) (omega arith) (omega (arith, h))

left-fit : (cs : List Cue) {book : List ℕ} {index place : ℕ} → Left book index place cs → EachFits cs
unfolding EachFits
left-fit [] l = tt
left-fit (c ∷ cs) {book} {index} {place} l =
    let first = left-first l in
    (cue-fits c (subst (λ (d : Cue). length d.phrase ≤ 1024) first.cue (phrase-short (drop place book) first.none)), left-fit cs (first.then refl))

fit-after : (g cs : List Cue) → fits g ≡ true → EachFits cs → AllFit (groups_after g cs)
unfolding AllFit EachFits
fit-after g [] f e = subst AllFit (sym (group-last g)) (f, tt)
fit-after g (c ∷ cs) f e =
    by-test (λ _. AllFit (groups_after g (c ∷ cs))) (fits (g ++ c ∷ []))
    (λ t. subst AllFit (sym (group-more g c cs t)) (fit-after (g ++ c ∷ []) cs t e.1))
    (λ t. subst AllFit (sym (group-anew g c cs t)) (f, fit-after (c ∷ []) cs e.0 e.1))

groups-fit : (cs : List Cue) → EachFits cs → AllFit (groups cs)
unfolding AllFit EachFits groups
groups-fit [] e = tt
groups-fit (c ∷ cs) e = fit-after (c ∷ []) cs e.0 e.1

-- ---- none has room for the next cue

full-before : (g h : List Cue) (gs : List (List Cue)) → fits (g ++ take 1 h) ≡ false → AllFull (h ∷ gs) → AllFull (g ∷ h ∷ gs)
unfolding AllFull
full-before g h gs e f = (e, f)

full-after : (g cs : List Cue) → AllFull (groups_after g cs)
unfolding AllFull
full-after g [] = subst AllFull (sym (group-last g)) tt
full-after g (c ∷ cs) =
    by-test (λ _. AllFull (groups_after g (c ∷ cs))) (fits (g ++ c ∷ []))
    (λ t. subst AllFull (sym (group-more g c cs t)) (full-after (g ++ c ∷ []) cs))
    (λ t.
    let r = first_group (c ∷ []) cs in
    subst AllFull (sym (group-anew g c cs t ∙ ap (λ (l : List (List Cue)). g ∷ l) r.is))
    (full-before g (c ∷ r.back) r.others t (subst AllFull r.is (full-after (c ∷ []) cs))))

groups-full : (cs : List Cue) → AllFull (groups cs)
unfolding AllFull groups
groups-full [] = tt
groups-full (c ∷ cs) = full-after (c ∷ []) cs

-- ---- so the groups of a book's chosen cues are what document 02 says

those-fit : (test : Cue → Bool) (cs : List Cue) → EachFits cs → EachFits (those test cs)
unfolding EachFits those
those-fit test [] e = tt
those-fit test (c ∷ cs) e = by-test (λ t. EachFits (cond t (c ∷ those test cs) (those test cs))) (test c) (λ _. (e.0, those-fit test cs e.1)) (λ _. those-fit test cs e.1)

pub book-grouped : (who : Choice) (book : List ℕ) {cs : List Cue} → read_book book ≡ cues cs → Grouping (playing_for who cs) (groups (playing_for who cs))
book-grouped who book {cs} read =
    let all : List Cue = playing_for who cs in
    let fit = those-fit (plays_on who.day) (seen who.role cs) (those-fit (seen_by who.role) cs (left-fit cs (left-all read))) in
    record { consecutive = groups-joined all; some = groups-some all; fit = groups-fit all fit; full = groups-full all }

-- ---- the group of a cue

-- whatever group has begun
abbrev After : List Cue → List Cue → Cue → List Cue → Type 0
After g before c later = Holds c (groups_after g (before ++ c ∷ later)) (groups_after g (before ++ c ∷ []))

group-after : (g before : List Cue) (c : Cue) (later : List Cue) → After g before c later
group-after g [] c later =
    by-test (λ _. After g [] c later) (fits (g ++ c ∷ []))
    (λ t.
    let r = first_group (g ++ c ∷ []) later in
    record {
      full = [];
      front = g;
      back = r.back;
      others = r.others;
      whole = group-more g c later t ∙ r.is ∙ ap (λ (l : List Cue). l ∷ r.others) (append_assoc g (c ∷ []) r.back);
      so_far = group-more g c [] t ∙ group-last (g ++ c ∷ []);
    })
    (λ t.
    let r = first_group (c ∷ []) later in
    record {
      full = g ∷ [];
      front = [];
      back = r.back;
      others = r.others;
      whole = group-anew g c later t ∙ ap (λ (l : List (List Cue)). g ∷ l) r.is;
      so_far = group-anew g c [] t ∙ ap (λ (l : List (List Cue)). g ∷ l) (group-last (c ∷ []));
    })
group-after g (b ∷ before) c later =
    by-test (λ _. After g (b ∷ before) c later) (fits (g ++ b ∷ []))
    (λ t.
    let r = group-after (g ++ b ∷ []) before c later in
    record {
      full = r.full;
      front = r.front;
      back = r.back;
      others = r.others;
      whole = group-more g b (before ++ c ∷ later) t ∙ r.whole;
      so_far = group-more g b (before ++ c ∷ []) t ∙ r.so_far;
    })
    (λ t.
    let r = group-after (b ∷ []) before c later in
    record {
      full = g ∷ r.full;
      front = r.front;
      back = r.back;
      others = r.others;
      whole = group-anew g b (before ++ c ∷ later) t ∙ ap (λ (l : List (List Cue)). g ∷ l) r.whole;
      so_far = group-anew g b (before ++ c ∷ []) t ∙ ap (λ (l : List (List Cue)). g ∷ l) r.so_far;
    })

pub group_of : (before : List Cue) (c : Cue) (later : List Cue) → GroupOf before c later
unfolding groups
group_of [] c later =
    let r = first_group (c ∷ []) later in
    record { full = []; front = []; back = r.back; others = r.others; whole = r.is; so_far = group-last (c ∷ []) }
group_of (b ∷ before) c later = group-after (b ∷ []) before c later

-- ---- the reads, by what was judged

-- the first cues, and some of the rest
take_more : (g rest : List Cue) (k n : ℕ) → n ≡ length g + k → take n (g ++ rest) ≡ g ++ take k rest
take_more [] rest k n e = let same : n ≡ k = omega arith in ap (λ (i : ℕ). take i rest) same
take_more (c ∷ g) rest k zero e = absurd (omega arith)
take_more (c ∷ g) rest k (suc n) e = ap (λ (l : List Cue). c ∷ l) (take_more g rest k n (omega arith))

module _ (text : List ℕ) (j : Judged) where
  reads-are : (cs : List Cue) → reads_of text j cs ≡ length text * length (groups (judged_of j cs))
  unfolding reads_of
  reads-are cs = refl

  -- no fault: once for each group
  pub reads_all : (cs : List Cue) → length cs ≤ length j.places → reads_of text j cs ≡ length text * length (groups cs)
  reads_all cs h = reads-are cs ∙ ap (λ (l : List Cue). length text * length (groups l)) (take_all (judged_count j) cs (omega arith))

  -- a fault: once for each group up to its cue's
  pub reads-up-to : (before : List Cue) (c : Cue) (later : List Cue) (g : GroupOf before c later) → length j.places ≡ length before → reads_of text j (before ++ c ∷ later) ≡ length text * group_number g
  reads-up-to before c later g h =
      let judged : judged_of j (before ++ c ∷ later) ≡ before ++ c ∷ [] = take_more before (c ∷ later) 1 (judged_count j) (omega (arith, h)) in
      let count : length (groups (before ++ c ∷ [])) ≡ group_number g = ap length g.so_far ∙ length-append g.full ((g.front ++ c ∷ []) ∷ []) ∙ omega arith in
      reads-are (before ++ c ∷ later) ∙ ap (λ (l : List Cue). length text * length (groups l)) judged ∙ ap (λ (n : ℕ). length text * n) count

-- ---- a walk by groups: some groups were walked, and those of any cues that follow come after them

pub record Walked (full : List (List Cue)) (done rest : List Cue) : Type 0 where
  pub even : (k : ℕ) → groups (done ++ take k rest) ≡ full ++ groups (take k rest)
  pub few : length full ≤ length done

pub walked_none : (rest : List Cue) → Walked [] [] rest
walked_none rest = record { even = λ k. refl; few = omega arith }

-- a group comes before those of the rest
first_of : (g rest : List Cue) → Group g rest → groups (g ++ rest) ≡ g ∷ groups rest
unfolding groups
first_of [] rest h = absurd (omega (arith, h.some))
first_of (c ∷ g) rest h = group-joins (c ∷ []) g rest h.fit ∙ then rest h.closed
  where
    then : (l : List Cue) → (1 ≤ length l → fits ((c ∷ g) ++ take 1 l) ≡ false) → groups_after (c ∷ g) l ≡ (c ∷ g) ∷ groups l
    then [] k = group-last (c ∷ g)
    then (d ∷ l) k = group-anew (c ∷ g) d l (k (omega arith))

-- so there is one such grouping of some cues alone
only : (gs : List (List Cue)) → AllSome gs → AllFit gs → AllFull gs → gs ≡ groups (joined gs)
unfolding joined AllSome AllFit AllFull groups
only [] s f u = refl
only (g ∷ []) s f u = sym (first_of g [] (record { some = s.0; fit = f.0; closed = λ h. absurd (omega arith) }))
only (g ∷ h ∷ gs) s f u =
    ap (λ (l : List (List Cue)). g ∷ l) (only (h ∷ gs) s.1 f.1 u.1)
    ∙ sym (first_of g (joined (h ∷ gs)) (record { some = s.0; fit = f.0; closed = λ _. ap (λ (l : List Cue). fits (g ++ l)) (take-append-le 1 h (joined gs) s.1.0) ∙ u.0 }))

pub groups-only : {cs : List Cue} {gs : List (List Cue)} → Grouping cs gs → gs ≡ groups cs
groups-only {cs} {gs} p = only gs p.some p.fit p.full ∙ ap groups p.consecutive

module _ {full : List (List Cue)} {done g rest : List Cue} (next : Group g rest) (w : Walked full done (g ++ rest)) where
  pub walked_next : Walked (full ++ g ∷ []) (done ++ g) rest
  walked_next =
      record {
        even = λ k.
            ap groups (append_assoc done g (take k rest) ∙ ap (λ (l : List Cue). done ++ l) (sym (take_more g rest k (length g + k) refl)))
            ∙ w.even (length g + k)
            ∙ ap (λ (l : List Cue). full ++ groups l) (take_more g rest k (length g + k) refl)
            ∙ ap (λ (l : List (List Cue)). full ++ l) (first_of g (take k rest) (record { some = next.some; fit = next.fit; closed = still k rest next.closed }))
            ∙ sym (append_assoc full (g ∷ []) (groups (take k rest)));
        few = omega (arith, w.few, next.some, length-append full (g ∷ []), length-append done g);
      }
    where
      still : (k : ℕ) (l : List Cue) → (1 ≤ length l → fits (g ++ take 1 l) ≡ false) → 1 ≤ length (take k l) → fits (g ++ take 1 (take k l)) ≡ false
      still zero l c h = absurd (omega arith)
      still (suc k) [] c h = absurd (omega arith)
      still (suc k) (d ∷ l) c h = c (omega arith)

  -- it stops at a cue of the next group
  pub reads-stop : (text : List ℕ) (j : Judged) {k : ℕ} → k < length g → length j.places ≡ length done + k → reads_of text j (done ++ (g ++ rest)) ≡ length text * suc (length full)
  unfolding groups
  reads-stop text j {k} inside h =
      let front : List Cue = take (suc k) g in
      let judged : judged_of j (done ++ (g ++ rest)) ≡ done ++ take (suc k) (g ++ rest) = take_more done (g ++ rest) (suc k) (judged_count j) (omega (arith, h)) in
      let here : take (suc k) (g ++ rest) ≡ front = take-append-le (suc k) g rest inside in
      let fronts : fits front ≡ true = fits-front front (drop (suc k) g) (ap fits (take-append-drop (suc k) g) ∙ next.fit) in
      let one : groups front ≡ front ∷ [] = ap groups (sym (append-nil front)) ∙ first_of front [] (record { some = omega (arith, length-take (suc k) g); fit = fronts; closed = λ e. absurd (omega arith) }) in
      let count : length (groups (judged_of j (done ++ (g ++ rest)))) ≡ suc (length full) =
      ap (λ (l : List Cue). length (groups l)) judged ∙ ap length (w.even (suc k) ∙ ap (λ (l : List Cue). full ++ groups l) here ∙ ap (λ (l : List (List Cue)). full ++ l) one)
      ∙ length-append full (front ∷ []) ∙ omega arith in
      reads-are text j (done ++ (g ++ rest)) ∙ ap (λ (n : ℕ). length text * n) count

-- it ends: no cue is left
pub reads_end : {full : List (List Cue)} {done : List Cue} → Walked full done [] → (text : List ℕ) (j : Judged) → length j.places ≡ length done → reads_of text j done ≡ length text * length full
unfolding groups
reads_end {full} {done} w text j h =
    let all : groups done ≡ full = ap groups (sym (append-nil done)) ∙ w.even 0 ∙ append-nil full in
    reads_all text j done (omega arith) ∙ ap (λ (l : List (List Cue)). length text * length l) all
