-- A book with one title replaced: the refusals by their cases, what is promised in each, that the pieces laid out are the new book, and the theorem that the new book reads as the old one with that cue's title replaced (`new-book`). Assumes nothing.
use mathlib.Core.Path.{◌≡◌, refl, sym, ap, ap₂, ◌∙◌}
use Prim.Native.Nat.{ℕ, suc, ◌+◌, ◌-◌, ◌≤◌, ◌<◌}
use native.Mathlib.Omega.{arith}
use mathlib.Core.Bool.{Bool, true, false, cond}
use mathlib.Core.List.{List, [], ◌∷◌, ◌++◌, append_assoc, append-nil}
use lib.ListN.{length, get_or, take, drop, length-append}
use lib.Seq.{take_at, drop_at, split_at, length-take-le, take-append_seam}
use lib.Dec.{eqb, ltb, leb}
use borrow.Author.Tests.{eq-eqb, ne_eqb, eqb-true, eqb-false, lt-ltb, le-ltb, ltb-true, ltb-false, le-leb, lt-leb, leb-true, leb-false}
use Rattle.std.specs.Int.{w16, to_be_bytes}
use Rattle.matching.specs.declared.Answer.{Answer}
use Rattle.matching.specs.declared.refusal.Refusal.{Refusal}
use Rattle.matching.specs.Refusals.{first_met}
use Rattle.matching.specs.Results as results
use Rattle.matching.proofs.Find.{number-some}
use Rattle.matching.proofs.Refusals.{Passed, numbers_to, all-passed}
use Rattle.matching.proofs.CaseAnalysis.{by-test}
use Rattle.pieces.specs.Pieces.{joined, put, put_all, Laid}
use Rattle.pieces.proofs.Laid.{laid_one, laid_cons, laid-front}
use Rattle.cue_fields.specs.declared.Due.TheVariants.{Title}
use Rattle.cue_fields.specs.Field.{tag_of, two_bytes}
use Rattle.cue_fields.specs.Form.{Bytes}
use Rattle.cues.specs.Cue.{Cue, Valid}
use Rattle.cues.specs.Reading.{cue_of}
use Rattle.cues.proofs.Titles.{head_bytes, tail_bytes}
use Rattle.cue_book.specs.declared.Part.{Part}
use Rattle.cue_book.specs.Book.{book_bytes, AllValid}
use Rattle.cue_book.specs.Reading.{cues, read_book, refusal_of, number_of, cues_in}
use Rattle.cue_book.specs.Places.{title_in, front, title_part}
use Rattle.cue_book.proofs.Books.{accepted-book, part-cues}
use Rattle.cue_writer.proofs.Inverse.{written-reads, accepted-written}
use Rattle.cue_writer.proofs.Writing.{be-two}
use Rattle.cue_writer.proofs.Titles.{valid-at, valid-instead, up_to_length, behind_title, book-split, written-title}
use Rattle.retitle.specs.Retitling.{retitled, retitle_tests, retitle_refusal, refused_number, Retitled, titled, NewBook, call_tests, book_pieces, shorter, Put}

-- ---- the refusals by their cases

module _ (book : List ℕ) (index : ℕ) (title : List ℕ) (capacity : ℕ) where
  refusal_is : retitle_refusal book index title capacity ≡ first_met (retitle_tests book index title capacity)
  unfolding retitle_refusal
  refusal_is = refl

  -- a fault of the book comes first
  pub refuses-fault : (refusal_of (read_book book) ≡ 0 → ⊥) → retitle_refusal book index title capacity ≡ refusal_of (read_book book)
  unfolding first_met
  refuses-fault some = refusal_is ∙ rw (ne_eqb (refusal_of (read_book book)) 0 some) refl

  module _ (read : refusal_of (read_book book) ≡ 0) where
    no-fault : eqb (refusal_of (read_book book)) 0 ≡ true
    no-fault = eq-eqb (refusal_of (read_book book)) 0 read

    -- then a title that is too long
    pub refuses-title : 200 < length title → retitle_refusal book index title capacity ≡ 9
    unfolding first_met
    refuses-title long = refusal_is ∙ rw (no-fault, lt-ltb 200 (length title) long) refl

    module _ (short : length title ≤ 200) where
      fine : ltb 200 (length title) ≡ false
      fine = le-ltb 200 (length title) short

      -- then a cue past the last
      pub refuses-cue : number_of (read_book book) ≤ index → retitle_refusal book index title capacity ≡ 12
      unfolding first_met
      refuses-cue past = refusal_is ∙ rw (no-fault, fine, le-leb (number_of (read_book book)) index past) refl

      -- then a buffer shorter than the new book, and nothing more
      module _ (among : index < number_of (read_book book)) where
        there : leb (number_of (read_book book)) index ≡ false
        there = lt-leb (number_of (read_book book)) index among

        pub refuses-buffer : capacity < length (retitled book index title) → retitle_refusal book index title capacity ≡ 13
        unfolding first_met
        refuses-buffer less = refusal_is ∙ rw (no-fault, fine, there, lt-ltb capacity (length (retitled book index title)) less) refl

        pub refuses-none : length (retitled book index title) ≤ capacity → retitle_refusal book index title capacity ≡ 0
        unfolding first_met
        refuses-none fits = refusal_is ∙ rw (no-fault, fine, there, le-ltb capacity (length (retitled book index title)) fits) refl

-- what is known where none is met
pub record Clear (book : List ℕ) (index : ℕ) (title : List ℕ) (capacity : ℕ) : Type 0 where
  pub read : refusal_of (read_book book) ≡ 0
  pub short : length title ≤ 200
  pub among : index < number_of (read_book book)
  pub fits : length (retitled book index title) ≤ capacity

pub clear : (book : List ℕ) (index : ℕ) (title : List ℕ) (capacity : ℕ) → retitle_refusal book index title capacity ≡ 0 → Clear book index title capacity
clear book index title capacity e =
    by-test (λ _. Clear book index title capacity) (eqb (refusal_of (read_book book)) 0)
    (λ t.
    let read = eqb-true (refusal_of (read_book book)) 0 t in
    by-test (λ _. Clear book index title capacity) (ltb 200 (length title))
    (λ u. absurd (omega (arith, refuses-title book index title capacity read (ltb-true 200 (length title) u))))
    (λ u.
    let short = ltb-false 200 (length title) u in
    by-test (λ _. Clear book index title capacity) (leb (number_of (read_book book)) index)
    (λ w. absurd (omega (arith, refuses-cue book index title capacity read short (leb-true (number_of (read_book book)) index w))))
    (λ w.
    let among = leb-false (number_of (read_book book)) index w in
    by-test (λ _. Clear book index title capacity) (ltb capacity (length (retitled book index title)))
    (λ x. absurd (omega (arith, refuses-buffer book index title capacity read short among (ltb-true capacity (length (retitled book index title)) x))))
    (λ x. record { read = read; short = short; among = among; fits = ltb-false capacity (length (retitled book index title)) x }))))
    (λ t. let some = eqb-false (refusal_of (read_book book)) 0 t in absurd (some (sym (refuses-fault book index title capacity some) ∙ e)))

-- ---- the pieces of the new book

pub pieces_are : (book : List ℕ) (index : ℕ) (title : List ℕ) {before behind : List ℕ} → let p : Part = title_part book index in
    before ≡ take (p.start - 2) book → behind ≡ drop (p.start + p.len) book → joined (book_pieces before title behind) ≡ retitled book index title
unfolding joined
pieces_are book index title {before} {behind} first last = ap₂ (λ (x y : List ℕ). x ++ (two_bytes (length title) ++ (title ++ y))) first (append-nil behind ∙ last)

-- ---- what is given back and left

-- a refusal that is no fault of the book is given with 0
no_number : (book : List ℕ) → refusal_of (read_book book) ≡ 0 → 0 ≡ refused_number book
no_number book read = ap (λ (b : Bool). cond b 0 (number_of (read_book book))) (sym (eq-eqb (refusal_of (read_book book)) 0 read))

module _ {book : List ℕ} {index : ℕ} {title buffer : List ℕ} where
  refused-with : {refusal number : ℕ} → retitle_refusal book index title (length buffer) ≡ refusal → (refusal ≡ 0 → ⊥) → number ≡ refused_number book
      → Retitled book index title buffer (record { refusal = refusal; number = number }) buffer
  refused-with e some n =
      let off = ne_eqb (retitle_refusal book index title (length buffer)) 0 (λ z. some (sym e ∙ z)) in
      record { answer = rw off (ap₂ (λ (r k : ℕ). record { refusal = r; number = k }) (sym e) n); left = rw off }

  -- a fault of the book is given with its cue
  pub fault-given : {refusal number : ℕ} → refusal ≡ refusal_of (read_book book) → (refusal ≡ 0 → ⊥) → number ≡ number_of (read_book book)
      → Retitled book index title buffer (record { refusal = refusal; number = number }) buffer
  fault-given e some n =
      let fault : refusal_of (read_book book) ≡ 0 → ⊥ = λ z. some (e ∙ z) in
      refused-with (refuses-fault book index title (length buffer) fault ∙ sym e) some (n ∙ ap (λ (b : Bool). cond b 0 (number_of (read_book book))) (sym (ne_eqb (refusal_of (read_book book)) 0 fault)))

  module _ (read : refusal_of (read_book book) ≡ 0) where
    pub title-given : 200 < length title → Retitled book index title buffer (record { refusal = 9; number = 0 }) buffer
    title-given long = refused-with (refuses-title book index title (length buffer) read long) (λ z. omega arith) (no_number book read)

    module _ (short : length title ≤ 200) where
      pub cue-given : number_of (read_book book) ≤ index → Retitled book index title buffer (record { refusal = 12; number = 0 }) buffer
      cue-given past = refused-with (refuses-cue book index title (length buffer) read short past) (λ z. omega arith) (no_number book read)

      module _ (among : index < number_of (read_book book)) where
        buffer-given : length buffer < length (retitled book index title) → Retitled book index title buffer (record { refusal = 13; number = 0 }) buffer
        buffer-given less = refused-with (refuses-buffer book index title (length buffer) read short among less) (λ z. omega arith) (no_number book read)

        whole-given : let whole : List ℕ = retitled book index title in
            length whole ≤ length buffer → Retitled book index title buffer (record { refusal = 0; number = length whole }) (whole ++ drop (length whole) buffer)
        whole-given fits =
            let none = refuses-none book index title (length buffer) read short among fits in
            let on = eq-eqb (retitle_refusal book index title (length buffer)) 0 none in
            record { answer = rw on (ap (λ (n : ℕ). record { refusal = n; number = length (retitled book index title) }) (sym none)); left = rw on }

        -- what is laid out of the pieces of the new book is that
        pub put-given : {before behind buffer' : List ℕ} {r : Answer} → let p : Part = title_part book index in
            before ≡ take (p.start - 2) book → behind ≡ drop (p.start + p.len) book → Put (book_pieces before title behind) buffer r buffer' → Retitled book index title buffer r buffer'
        put-given {before} {behind} {buffer'} {r} first last put =
            let pieces : List (List ℕ) = book_pieces before title behind in
            let is = pieces_are book index title first last in
            by-test
            (λ t.
            shorter buffer pieces ≡ t → r ≡ cond t (record { refusal = 13; number = 0 }) (record { refusal = 0; number = length (joined pieces) })
            → buffer' ≡ cond t buffer (joined pieces ++ drop (length (joined pieces)) buffer) → Retitled book index title buffer r buffer')
            (shorter buffer pieces)
            (λ _ t a l. let g = buffer-given (omega (arith, ltb-true (length buffer) (length (joined pieces)) t, ap length is)) in record { answer = a ∙ g.answer; left = l ∙ g.left })
            (λ _ t a l.
            let g = whole-given (omega (arith, ltb-false (length buffer) (length (joined pieces)) t, ap length is)) in
            record {
              answer = a ∙ ap (λ (x : List ℕ). record { refusal = 0; number = length x }) is ∙ g.answer;
              left = l ∙ ap (λ (x : List ℕ). x ++ drop (length x) buffer) is ∙ g.left;
            })
            refl
            put.answer
            put.left

  -- a refusal by the tests of the call, whose number of cues is the book's
  pub tests-given : {count : ℕ} → refusal_of (read_book book) ≡ 0 → count ≡ number_of (read_book book) → (r : Refusal) → results.number_of r ≡ first_met (call_tests title count index)
      → Retitled book index title buffer (record { refusal = results.number_of r; number = 0 }) buffer
  unfolding first_met
  tests-given {count} read many r e =
      by-test (λ t. results.number_of r ≡ cond t 9 (cond (leb count index) 12 0) → Retitled book index title buffer (record { refusal = results.number_of r; number = 0 }) buffer) (ltb 200 (length title))
      (λ t e. rw e (title-given read (ltb-true 200 (length title) t)))
      (λ t e.
      by-test (λ u. results.number_of r ≡ cond u 12 0 → Retitled book index title buffer (record { refusal = results.number_of r; number = 0 }) buffer) (leb count index)
      (λ u e. rw e (cue-given read (ltb-false 200 (length title) t) (omega (arith, leb-true count index u, many))))
      (λ u e. absurd (omega (arith, e, number-some r)))
      e)
      e

-- where these tests are passed
pub tests-passed : (title : List ℕ) (count index : ℕ) → 0 ≡ first_met (call_tests title count index) → (length title ≤ 200) × (index < count)
unfolding Passed numbers_to
tests-passed title count index e = let p = all-passed 12 (call_tests title count index) refl (sym e) in (ltb-false 200 (length title) p.0, leb-false count index p.1.0)

-- ---- laying the pieces out

module _ (before title behind : List ℕ) where
  pub pieces-length : length (joined (book_pieces before title behind)) ≡ length before + 2 + length title + length behind
  unfolding joined
  pieces-length =
      length-append before (two_bytes (length title) ++ (title ++ (behind ++ []))) ∙ omega (arith, length-append title (behind ++ []), length-append behind [])

  -- the pieces laid out one after another, the title's length in std's two bytes
  pub laid-pieces : (buffer : List ℕ) {two b₁ b₂ b₃ b₄ : List ℕ} {a₁ a₂ a₃ a₄ : ℕ} → length title ≤ 200 → two ≡ to_be_bytes w16 (length title) → Laid b₁ a₁ (put buffer 0 before) → Laid b₂ a₂ (put b₁ a₁ two)
      → Laid b₃ a₃ (put b₂ a₂ title) → Laid b₄ a₄ (put b₃ a₃ behind) → Laid b₄ a₄ (put_all buffer 0 (book_pieces before title behind))
  laid-pieces buffer short e first second third last =
      let two = e ∙ be-two (length title) (omega arith) in
      laid_cons _ _ _ _ first (laid_cons _ _ _ _ (rw two at second) (laid_cons _ _ _ _ third (laid_one _ _ _ last)))

  module _ {buffer : List ℕ} where
    -- the buffer is shorter, or the pieces fit into it
    pub put_refused : length buffer < length before + 2 + length title + length behind → Put (book_pieces before title behind) buffer (record { refusal = 13; number = 0 }) buffer
    put_refused less =
        let pieces : List (List ℕ) = book_pieces before title behind in
        let off = lt-ltb (length buffer) (length (joined pieces)) (omega (arith, less, pieces-length)) in
        record { answer = rw off; left = rw off }

    pub put-fits : length before + 2 + length title + length behind ≤ length buffer → {at : ℕ} {buffer' : List ℕ} → Laid buffer' at (put_all buffer 0 (book_pieces before title behind))
        → (at ≡ length before + 2 + length title + length behind) × Put (book_pieces before title behind) buffer (record { refusal = 0; number = at }) buffer'
    put-fits fits l =
        let pieces : List (List ℕ) = book_pieces before title behind in
        let enough : length (joined pieces) ≤ length buffer = omega (arith, fits, pieces-length) in
        let on = le-ltb (length buffer) (length (joined pieces)) enough in
        let w = laid-front pieces buffer enough l in
        (w.0 ∙ pieces-length, record { answer = rw on (ap (λ (n : ℕ). record { refusal = 0; number = n }) w.0); left = rw on w.1 })

-- the title of a cue of an accepted book has its header before it
pub title-header : (book : List ℕ) (index : ℕ) → refusal_of (read_book book) ≡ 0 → index < number_of (read_book book) → 3 ≤ (title_part book index).start
title-header book index read among =
    let a = accepted-book book read in
    let n : ℕ = length (cues_in (read_book book)) in
    let is : title_part book index ≡ title_in book index =
    part-cues book index a.0 ∙ ap (λ (b : Bool). cond b (title_in book index) front) (lt-ltb index n (omega (arith, among, a.1))) in
    omega (arith, ap (λ (p : Part). p.start) is)

-- ---- the new book is the bytes of the cues with that title

-- another title changes neither what stands before it in its cue nor what stands behind it
titled-around : (title : List ℕ) (c : Cue) → (head_bytes (titled title c) ≡ head_bytes c) × (tail_bytes (titled title c) ≡ tail_bytes c)
titled-around title c = (refl, refl)

pub retitled-bytes : (before : List Cue) (c : Cue) (after : List Cue) (title : List ℕ) → AllValid (before ++ c ∷ after) → length (before ++ c ∷ after) ≤ 999
    → retitled (book_bytes (before ++ c ∷ after)) (length before) title ≡ book_bytes (before ++ titled title c ∷ after)
retitled-bytes before c after title v few =
    let book : List ℕ = book_bytes (before ++ c ∷ after) in
    let p : Part = title_part book (length before) in
    let up_to : List ℕ = up_to_length before c in
    let old : List ℕ = two_bytes (length c.title) ++ c.title in
    let behind : List ℕ = behind_title c after in
    let place = written-title before c after v few in
    let start = ap (λ (q : Part). q.start) place in
    let split : book ≡ up_to ++ (old ++ behind) = book-split before c after in
    let long : length up_to ≡ p.start - 2 = length-append (book_bytes before) (head_bytes c ++ tag_of Title ∷ []) ∙ omega (arith, start, length-append (head_bytes c) (tag_of Title ∷ [])) in
    let all : length (up_to ++ old) ≡ p.start + p.len = length-append up_to old ∙ omega (arith, start, long, ap (λ (q : Part). q.len) place) in
    let first : take (p.start - 2) book ≡ up_to = ap (take (p.start - 2)) split ∙ take_at up_to (old ++ behind) (p.start - 2) long in
    let last : drop (p.start + p.len) book ≡ behind = ap (drop (p.start + p.len)) (split ∙ sym (append_assoc up_to old behind)) ∙ drop_at (up_to ++ old) behind (p.start + p.len) all in
    let same = titled-around title c in
    ap₂ (λ (x y : List ℕ). x ++ (two_bytes (length title) ++ (title ++ y))) first last
    ∙ ap₂ (λ (h t : List ℕ). (book_bytes before ++ (h ++ tag_of Title ∷ [])) ++ (two_bytes (length title) ++ (title ++ (t ++ book_bytes after)))) (sym same.0) (sym same.1)
    ∙ sym (book-split before (titled title c) after)

-- ---- so it reads as these cues

titled-valid : (title : List ℕ) {c : Cue} → length title ≤ 200 → Valid c → Valid (titled title c)
titled-valid title short v = record { some = v.some; short = v.short; named = v.named; small = v.small; shown = short; dated = v.dated }

pub retitled-reads : (book : List ℕ) → Bytes book → (before : List Cue) (c : Cue) (after : List Cue) (title : List ℕ) → read_book book ≡ cues (before ++ c ∷ after) → length title ≤ 200
    → read_book (retitled book (length before) title) ≡ cues (before ++ titled title c ∷ after)
retitled-reads book b before c after title e short =
    let a = accepted-written book b (before ++ c ∷ after) e in
    let few : length (before ++ titled title c ∷ after) ≤ 999 = omega (arith, a.few, length-append before (c ∷ after), length-append before (titled title c ∷ after)) in
    ap (λ (l : List ℕ). read_book (retitled l (length before) title)) a.is
    ∙ ap read_book (retitled-bytes before c after title a.valid a.few)
    ∙ written-reads (before ++ titled title c ∷ after) (valid-instead before c (titled title c) after a.valid (titled-valid title short (valid-at before c after a.valid))) few

-- and what is written at the buffer's start reads as the book does, but that the cue has the new title
pub new-book : {book : List ℕ} {index : ℕ} {title buffer buffer' : List ℕ} {r : Answer} → Bytes book → Retitled book index title buffer r buffer' → r.refusal ≡ 0 → NewBook book index title (take r.number buffer')
new-book {book} {index} {title} {buffer} {buffer'} {r} b w z =
    let whole : List ℕ = retitled book index title in
    let none : retitle_refusal book index title (length buffer) ≡ 0 = sym (ap (λ (a : Answer). a.refusal) w.answer) ∙ z in
    let on = eq-eqb (retitle_refusal book index title (length buffer)) 0 none in
    let number : r.number ≡ length whole = ap (λ (a : Answer). a.number) w.answer ∙ ap (λ (t : Bool). cond t (length whole) (refused_number book)) on in
    let left : buffer' ≡ whole ++ drop (length whole) buffer = w.left ∙ ap (λ (t : Bool). cond t (whole ++ drop (length whole) buffer) buffer) on in
    let k = clear book index title (length buffer) none in
    let a = accepted-book book k.read in
    let cs : List Cue = cues_in (read_book book) in
    let among : index < length cs = omega (arith, k.among, a.1) in
    let d : Cue = cue_of book in
    let before : List Cue = take index cs in
    let read : read_book book ≡ cues (before ++ get_or cs index d ∷ drop (suc index) cs) = a.0 ∙ ap cues (split_at cs index d among) in
    let named : index ≡ length before = sym (length-take-le index cs (omega arith)) in
    record {
      before = before;
      cue = get_or cs index d;
      after = drop (suc index) cs;
      read = read;
      named = named;
      anew =
          ap read_book (ap₂ (λ (n : ℕ) (l : List ℕ). take n l) number left ∙ take-append_seam whole (drop (length whole) buffer))
          ∙ ap (λ (i : ℕ). read_book (retitled book i title)) named
          ∙ retitled-reads book b before (get_or cs index d) (drop (suc index) cs) title read k.short;
    }
