-- What is given back and left, from the outcome of a call. Assumes nothing.
use mathlib.Core.Path.{◌≡◌, refl, sym, ap, subst, ◌∙◌}
use Prim.Native.Nat.{ℕ, ◌*◌, ◌≤◌, ◌<◌}
use mathlib.Core.List.{List, ◌++◌, map}
use lib.ListN.{length, take, drop, replicate, length-map}
use native.Mathlib.Omega.{arith}
use Rattle.matching.proofs.Received.{received_none, received-front}
use Rattle.fold.specs.declared.Folding.{Folding}
use Rattle.fold.specs.Fold.{fold_on, folding, LettersFolded}
use Rattle.fold.proofs.Fold.{letters-made, letters-left}
use Rattle.cues.specs.declared.Choice.{Choice}
use Rattle.cues.specs.Cue.{Cue}
use Rattle.std.specs.Prelude.{Err}
use Rattle.matching.specs.declared.Answer.{Answer}
use Rattle.matching.specs.declared.refusal.Refusal.{Refusal}
use Rattle.matching.specs.Results.{number_of}
use Rattle.matching.proofs.Find.{number-some}
use Rattle.cue_book.specs.Reading.{cues, read_book, refusal_of, playing_for, cues_in}
use Rattle.cue_book.specs.Places.{chosen_answer}
use Rattle.cue_book.proofs.Books.{refused-book, accepted-book, chosen_is, chosen-cues, chosen-refused}
use Rattle.outcome.specs.Outcome.{call_refusal, refusing}
use Rattle.outcome.proofs.Choosing.{length-for}
use Rattle.outcome.proofs.Calls.{Enough, enough, outcome-refused, outcome-book, outcome-few, outcome-works}
use Rattle.resolver.specs.declared.Resolving.{Resolving}
use Rattle.resolver.specs.Resolver.{call, comes_to, Resolved}
use Rattle.resolver.specs.Walking.{Ready, Placed}
use Rattle.resolver.proofs.Walking.{along-first, along-end}

module _ (who : Choice) (page : ℕ) (book text copy scratch entries : List ℕ) where
  -- refused: all as before
  resolved-refused : {number index : ℕ} → comes_to book (call who page text copy scratch entries) ≡ refusing number index
      → Resolved who page book text copy scratch entries (record { refusal = number; number = index; reads = 0 }) copy scratch entries
  resolved-refused e = record { answer = rw e; copied = rw e; emptied = rw e; entered = rw e (sym (received_none entries)) }

  pub resolved-memory : {number : ℕ} → number ≡ call_refusal (call who page text copy scratch entries) → (number ≡ 0 → ⊥)
      → Resolved who page book text copy scratch entries (record { refusal = number; number = 0; reads = 0 }) copy scratch entries
  resolved-memory e some = resolved-refused (outcome-refused (fold_on page) (call who page text copy scratch entries) book e some)

  module _ (fine : call_refusal (call who page text copy scratch entries) ≡ 0) where
    pub resolved-book : {r : Answer} → r ≡ chosen_answer who book → (r.refusal ≡ 0 → ⊥)
        → Resolved who page book text copy scratch entries (record { refusal = r.refusal; number = r.number; reads = 0 }) copy scratch entries
    resolved-book {r} is some =
        let refusal : r.refusal ≡ refusal_of (read_book book) = ap (λ (a : Answer). a.refusal) (is ∙ chosen_is who book) in
        let bad = refused-book book (λ z. some (refusal ∙ z)) in
        subst (λ (a : Answer). Resolved who page book text copy scratch entries (record { refusal = a.refusal; number = a.number; reads = 0 }) copy scratch entries) (sym (is ∙ chosen-refused who book bad))
        (resolved-refused (outcome-book (fold_on page) (call who page text copy scratch entries) book fine (λ z. some (refusal ∙ z))))

    pub resolved-few : {cs : List Cue} → read_book book ≡ cues cs → length entries < 3 * length (playing_for who cs)
        → Resolved who page book text copy scratch entries (record { refusal = 11; number = 0; reads = 0 }) copy scratch entries
    resolved-few read h = resolved-refused (outcome-few (fold_on page) (call who page text copy scratch entries) book fine read h)

    -- the cues were resolved
    pub resolved-works : {r : Resolving} {copy' scratch' entries' : List ℕ} → read_book book ≡ cues (cues_in (read_book book)) → 3 * length (playing_for who (cues_in (read_book book))) ≤ length entries
        → copy' ≡ map (fold_on page) text ++ drop (length text) copy → Placed who page book text scratch entries r scratch' entries' → Resolved who page book text copy scratch entries r copy' scratch' entries'
    resolved-works read enough c placed =
        let e = outcome-works (fold_on page) (call who page text copy scratch entries) book fine read enough in
        record { answer = rw e placed.answer; copied = rw e c; emptied = rw e placed.emptied; entered = rw e placed.entered }

    pub tested-room : length text ≤ length copy
    tested-room = (enough {c = call who page text copy scratch entries} fine).whole

    -- the page is known, so the text is folded
    pub tested-fold : (r : Refusal) {copy' : List ℕ} → LettersFolded page text copy (folding (Err r)) copy' → ⊥
    tested-fold r f =
        let none : number_of r ≡ 0 = ap (λ (x : Folding). x.refusal) f.answer ∙ rw (enough {c = call who page text copy scratch entries} fine).known refl in
        omega (arith, number-some r, none)

    -- ---- the book was read, and so many of its cues are chosen
    module _ {n : ℕ} (told : record { refusal = 0; number = n } ≡ chosen_answer who book) where
      was-read : (read_book book ≡ cues (cues_in (read_book book))) × (n ≡ length (playing_for who (cues_in (read_book book))))
      was-read =
          let none = ap (λ (a : Answer). a.refusal) (told ∙ chosen_is who book) in
          let read = (accepted-book book (sym none)).0 in
          (read, ap (λ (a : Answer). a.number) (told ∙ chosen-cues who book read))

      pub tested-few : length entries < 3 * n → Resolved who page book text copy scratch entries (record { refusal = 11; number = 0; reads = 0 }) copy scratch entries
      tested-few h = resolved-few was-read.0 (omega (arith, h, was-read.1))

      lent : Enough (call who page text copy scratch entries)
      lent = enough fine

      -- the text is long enough folded, and stands at the front of the copy
      module _ {copy' : List ℕ} {r : Folding} (folded : LettersFolded page text copy r copy') where
        pub tested-front : take (length text) copy' ≡ map (fold_on page) text
        tested-front = letters-left folded lent.known lent.whole

        copied : copy' ≡ map (fold_on page) text ++ drop (length text) copy
        copied =
            let size = length-map text (fold_on page) in
            letters-made folded lent.known ∙ received-front copy (map (fold_on page) text) (omega (arith, size, lent.whole)) ∙ ap (λ (k : ℕ). map (fold_on page) text ++ drop k copy) size

        pub tested-ready : 1 ≤ n → Ready who page book n text (take (length text) copy') scratch entries
        tested-ready some =
            record { read = was-read.0; number = was-read.1; some = some; known = lent.known; small = lent.small; copied = tested-front; room = lent.tables }

        pub tested-works : {r : Resolving} {scratch' entries' : List ℕ} → 3 * n ≤ length entries → Placed who page book text scratch entries r scratch' entries' → Resolved who page book text copy scratch entries r copy' scratch' entries'
        tested-works h placed = resolved-works was-read.0 (omega (arith, h, was-read.1)) copied placed

        pub tested-none : {scratch' : List ℕ} → 3 * n ≤ length entries → n ≡ 0 → scratch' ≡ replicate (length scratch) 0
            → Resolved who page book text copy scratch entries (record { refusal = 0; number = 0; reads = 0 }) copy' scratch' entries
        tested-none h none e =
            let size = length-for who (cues_in (read_book book)) in
            tested-works h (along-end (along-first who page book text entries was-read.0) refl (omega (arith, size, was-read.1, none)) e)
