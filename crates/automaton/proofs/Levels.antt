-- The trie while its phrases are read, a letter of each in turn. Assumes nothing.
use Rattle.std.proofs.Common.{◌≡◌, ℕ, zero, suc, ◌+◌, ◌-◌, ◌*◌, ◌^◌, ◌<◌, ◌≤◌, max, cond, eqb, Some, None, List, [], ◌∷◌, ◌++◌, length, get_or, map, take, drop, set, replicate, refl, sym, ap, ◌∙◌, arith, add-one, length-take-le}
use Rattle.std.proofs.lemmas.List.{length-replicate, get_or-replicate}
use Rattle.std.proofs.lemmas.Option.{slice_get-map, slice_get_read, slice_get_past}
use Rattle.std.proofs.lemmas.List.Edits.{sets, sets-eq}
use Rattle.std.specs.List.{slice_get}
use borrow.Author.Tests.{eqb-true}
use Rattle.matching.proofs.CaseAnalysis.{by-test}
use Rattle.phrases.proofs.Group.{phrases-count, phrase-long, part-is}
use Rattle.tries.specs.Tables.{Plain, Room, Extended}
use Rattle.tries.specs.Group.{Growing, Grown, Fits}
use Rattle.tries.proofs.Levels.{grows-past, next-room, next_grows, grows-first, grown}
use Rattle.tries.specs.Links.{bits_at, marked, Marked}
use Rattle.tries.proofs.Marking.{Marking, mark-room, mark-above, marking-next, marking-done}
use Rattle.automaton.specs.Walk.{table}
use Rattle.automaton.specs.declared.Phrases.{Phrases}
use Rattle.automaton.specs.Words.{words}

-- ---- a letter of a phrase

letter-there : (p : List ℕ) (d c : ℕ) → Some c ≡ slice_get p d → take 1 (drop d p) ≡ c ∷ []
letter-there [] d c e = cc
letter-there (x ∷ p) zero c e = ap (λ y. y ∷ []) (cc)
letter-there (x ∷ p) (suc d) c e = letter-there p d c e

letter-none : (p : List ℕ) (d : ℕ) → None ≡ slice_get p d → length p ≤ d
letter-none [] d e = omega arith
letter-none (x ∷ p) zero e = cc
letter-none (x ∷ p) (suc d) e = omega (arith, letter-none p d e)

module _ {ps : List (List ℕ)} {t at : List ℕ} {n d i : ℕ} (g : Growing ps t at n d i) (h : i < length ps) where
  -- the phrase has the letter
  pub letter_room : {c : ℕ} → Some c ≡ slice_get (get_or ps i []) d → Room t n (get_or at i 0) (c ∷ [])
  letter_room {c} e = rw (letter-there (get_or ps i []) d c e) at (next-room g h)

  pub letter_next : {c : ℕ} → Some c ≡ slice_get (get_or ps i []) d → {t' : List ℕ} {r : ℕ}
      → ((names : List (List ℕ)) → Plain names t → length names ≡ n → Extended names t t' (get_or at i 0) (c ∷ []) r) → Growing ps t' (set at i r) (max n (r + 1)) d (i + 1)
  letter_next {c} e {t'} {r} extended =
      let x : Extended g.names t t' (get_or at i 0) (c ∷ []) r = extended g.names g.plain g.count in
      let y : Extended g.names t t' (get_or at i 0) (take 1 (drop d (get_or ps i []))) r = rw (letter-there (get_or ps i []) d c e) x in
      let few : cond (eqb r n) (suc n) n ≡ max n (r + 1) =
      by-test (λ b. length x.names ≡ cond b (suc n) n → cond b (suc n) n ≡ max n (r + 1)) (eqb r n)
      (λ f _. omega (arith, eqb-true r n f))
      (λ _ z. omega (arith, x.inside))
      (x.count ∙ ap (λ m. cond (eqb r m) (suc m) m) g.count) in
      rw (few, ← (add-one i)) at (next_grows g h y)

  -- it has no such letter
  pub letter_over : None ≡ slice_get (get_or ps i []) d → Growing ps t at n d (i + 1)
  letter_over e = rw (← (add-one i)) at (grows-past g h (letter-none (get_or ps i []) d e))

-- ---- the phrases of a group

-- phrase i as it stands in the book
abbrev pub lent : Phrases → ℕ → List ℕ
lent p i = let s = get_or p.starts.now i 0 in take (s + get_or p.lens.now i 0 - s) (drop s p.book.now)

module _ (p : Phrases) where
  pub words-count : length (words p) ≡ length p.starts.now
  words-count = phrases-count (table p.folds.now) p.book.now p.starts.now p.lens.now p.group.pairs

  module _ (i d : ℕ) (h : i < length p.starts.now) where
    lent-is : map (table p.folds.now) (lent p i) ≡ get_or (words p) i []
    lent-is = part-is (table p.folds.now) p.book.now p.starts.now p.lens.now i p.group.pairs h

    -- a letter in the book, looked up, and where there is none
    pub letter_folded : (c : ℕ) → d < length (lent p i) → c ≡ get_or (lent p i) d c → Some (get_or p.folds.now c 0) ≡ slice_get (get_or (words p) i []) d
    letter_folded c l e = let f = slice_get_read (lent p i) _ d c refl l e in rw (← lent-is, slice_get-map, f) refl

    pub letter_past : length (lent p i) ≤ d → None ≡ slice_get (get_or (words p) i []) d
    letter_past l = let f = slice_get_past (lent p i) d l in rw (← lent-is, slice_get-map, f) refl

  -- the root alone
  pub grows_root : {t ys at : List ℕ} → Fits (words p) t × (at ≡ replicate (length p.starts.now) 0) → ys ≡ replicate (length (take 8 t)) 0 → Growing (words p) (ys ++ drop 8 t) at 1 0 0
  grows_root {t} {ys} {at} (f, z) e =
      let front : ys ++ drop 8 t ≡ sets t 0 (replicate 8 0) = ap (λ l. l ++ drop 8 t) (e ∙ ap (λ m. replicate m 0) (length-take-le 8 t (omega (arith, f.long)))) ∙ sym (sets-eq (replicate 8 0) t 0 (omega (arith, f.long))) in
      rw front (grows-first t f.some f.small f.long (ap length z ∙ length-replicate (length p.starts.now) 0 ∙ sym words-count)
      (λ k h. ap (λ (l : List ℕ). get_or l k 0) z ∙ get_or-replicate (length p.starts.now) k 0 0 (omega (arith, words-count))))

  -- all letters
  pub grows_done : {t at : List ℕ} {n d most : ℕ} → Growing (words p) t at n d 0 → ((k : ℕ) → k < length p.lens.now → get_or p.lens.now k 0 ≤ most) → most ≤ d → Grown (words p) t at n
  grows_done g all h =
      grown g (λ k l.
      let k< : k < length p.starts.now = omega (arith, words-count) in
      omega (arith, phrase-long (table p.folds.now) p.book.now p.starts.now p.lens.now k p.group.pairs k< (p.group.inside k k<), all k (omega (arith, p.group.pairs))))

-- zeros that are lent
pub take_zeros : (k n : ℕ) → k ≤ n → take k (replicate n 0) ≡ replicate {A = ℕ} k 0
take_zeros zero n h = refl
take_zeros (suc k) zero h = absurd (omega arith)
take_zeros (suc k) (suc n) h = ap (λ (l : List ℕ). 0 ∷ l) (take_zeros k n (omega arith))

-- ---- the bits of the phrases, whose states are in the lent part of 64 zeros

module _ (p : Phrases) (few : length p.starts.now ≤ 64) {t at : List ℕ} {n i : ℕ} (m : Marking (words p) t at n i) (long : length at ≡ length (take (length p.starts.now) (replicate {A = ℕ} 64 0))) where
  each : length at ≡ length (words p)
  each = omega (arith, words-count p, length-take-le (length p.starts.now) (replicate {A = ℕ} 64 0) few)

  module _ (h : i < length at) where
    pub marks_needs : (8 * get_or at i 0 + 8 ≤ length t) × ((i < 64) × (bits_at t (get_or at i 0) < 2 ^ i))
    marks_needs = let n = words-count p in let e = each in (mark-room m (omega arith) (omega arith), (omega arith, mark-above m (omega arith) (omega arith)))

    pub marks_next : {t' : List ℕ} → t' ≡ marked t (get_or at i 0) i → Marking (words p) t' at n (i + 1)
    marks_next e = let n = words-count p in let k = each in rw (e, add-one i) (marking-next m (omega arith) (omega arith))

  pub marks_done : length at ≤ i → Marked (words p) t n
  marks_done h =
      let s = p.starts.now in
      let l = p.lens.now in
      let some : (k : ℕ) → k < length (words p) → 1 ≤ length (get_or (words p) k []) =
      λ k a.
      let k< : k < length s = omega (arith, words-count p) in
      omega (arith, phrase-long (table p.folds.now) p.book.now s l k p.group.pairs k< (p.group.inside k k<), p.group.some k k<) in
      record { names = m.names; linking = marking-done m (omega (arith, each)) some; count = m.named.count; few = m.named.few }
