-- What a walk for a group gives of its phrases' occurrences: how many letters were read, and for each phrase whether the occurrence that its ordinal names exists, and where it stands. Assumes nothing.
use mathlib.Core.Path.{◌≡◌, sym, ap, ap₂, ◌∙◌}
use Prim.Native.Nat.{ℕ, ◌-◌, ◌≤◌, ◌<◌}
use native.Mathlib.Omega.{arith}
use mathlib.Core.Bool.{true, false, cond, ◌&&◌, and-false}
use mathlib.Core.List.{List, []}
use lib.ListN.{length, get_or}
use lib.Dec.{leb}
use borrow.Author.Tests.{le-leb, lt-leb}
use Rattle.matching.specs.Occurrences.{occurrences, has_nth}
use Rattle.fold.specs.Fold.{fold_on}
use Rattle.phrases.specs.Phrases.{endings, risen}
use Rattle.phrases.proofs.Group.{phrases-count, phrase-long}
use Rattle.phrases.proofs.Endings.{endings-length, risen-occurrences}
use Rattle.phrases.proofs.Counts.{Entry, counts-are}
use Rattle.automaton.specs.Locate.{phrases_of, Located}

module _ {page : ℕ} {book starts lens text scratch left place : List ℕ} {reads : ℕ} {scratch' left' place' : List ℕ} (l : Located page book starts lens text scratch left place reads scratch' left' place') where
  -- each letter was read once
  pub reads_all : reads ≡ length text
  reads_all = l.counted.steps ∙ endings-length (phrases_of page book starts lens) [] text

  module _ (k : ℕ) (h : k < length starts) where
    found-are : risen k (get_or lens k 0) 0 (endings (phrases_of page book starts lens) [] text) ≡ occurrences (get_or (phrases_of page book starts lens) k []) text
    found-are =
        let a = l.accepted in
        let n : length (phrases_of page book starts lens) ≡ length starts = phrases-count (fold_on page) book starts lens a.pairs in
        let m : length (get_or (phrases_of page book starts lens) k []) ≡ get_or lens k 0 = phrase-long (fold_on page) book starts lens k a.pairs h (a.inside k h) in
        ap (λ x. risen k x 0 (endings (phrases_of page book starts lens) [] text)) (sym m) ∙ sym (risen-occurrences (phrases_of page book starts lens) k (omega arith) (omega (arith, a.letter k h)) text)

    -- what the walk's numbers made of the phrase
    entry : let found = risen k (get_or lens k 0) 0 (endings (phrases_of page book starts lens) [] text) in
        Entry k (record { left = left; place = place }) (record { left = left'; place = place' }) (get_or left k 0 - length found) (cond (has_nth found (get_or left k 0)) (get_or found (get_or left k 0 - 1) 0) (get_or place k 0))
    entry =
        let a = l.accepted in
        rw l.counted.comes (counts-are lens k (omega (arith, a.few)) (endings (phrases_of page book starts lens) [] text) 0 (record { left = left; place = place }) (omega (arith, a.lefts)) (omega (arith, a.places)))

    counted : get_or left' k 0 ≡ get_or left k 0 - length (occurrences (get_or (phrases_of page book starts lens) k []) text)
    counted = entry.left_at ∙ ap (λ o. get_or left k 0 - length o) found-are

    -- none is left of an ordinal: that occurrence exists, and the place is where it stands
    pub found : 1 ≤ get_or left k 0 → get_or left' k 0 ≡ 0 → has_nth (occurrences (get_or (phrases_of page book starts lens) k []) text) (get_or left k 0) ≡ true
    found some none =
        let o : List ℕ = occurrences (get_or (phrases_of page book starts lens) k []) text in
        ap₂ (λ a b. a && b) (le-leb 1 (get_or left k 0) some) (le-leb (get_or left k 0) (length o) (omega (arith, counted)))

    pub stands : 1 ≤ get_or left k 0 → get_or left' k 0 ≡ 0 → get_or place' k 0 ≡ get_or (occurrences (get_or (phrases_of page book starts lens) k []) text) (get_or left k 0 - 1) 0
    stands some none =
        entry.place_at ∙ ap (λ o. cond (has_nth o (get_or left k 0)) (get_or o (get_or left k 0 - 1) 0) (get_or place k 0)) found-are
        ∙ ap (λ t. cond t (get_or (occurrences (get_or (phrases_of page book starts lens) k []) text) (get_or left k 0 - 1) 0) (get_or place k 0)) (found some none)

    -- some is left: there is no such occurrence
    pub missing : 1 ≤ get_or left' k 0 → has_nth (occurrences (get_or (phrases_of page book starts lens) k []) text) (get_or left k 0) ≡ false
    missing more =
        let o : List ℕ = occurrences (get_or (phrases_of page book starts lens) k []) text in
        ap (λ b. leb 1 (get_or left k 0) && b) (lt-leb (get_or left k 0) (length o) (omega (arith, counted))) ∙ and-false (leb 1 (get_or left k 0))

  -- the lists keep their lengths
  pub left-long : length left' ≡ length left
  left-long = (entry 0 l.accepted.some).left-long

  pub place-long : length place' ≡ length place
  place-long = (entry 0 l.accepted.some).place-long
