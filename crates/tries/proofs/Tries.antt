-- The laws of the trie in the table: looking a child up. Assumes nothing.
use mathlib.Core.Path.{◌≡◌, sym, ap, ◌∙◌}
use Prim.Native.Nat.{ℕ, zero, suc, ◌+◌, ◌*◌, ◌≤◌, ◌<◌}
use native.Mathlib.Omega.{arith}
use mathlib.Core.List.{List, [], ◌∷◌, ◌++◌}
use native.Mathlib.Nat.{add-zero}
use lib.ListN.{length, get_or, take, length-append}
use lib.Seq.{take-append_seam, get_or-append_seam}
use lib.Dec.{eqb, ltb}
use borrow.Author.Tests.{ltb-true, ltb-false, eqb-true, eqb-false}
use Rattle.matching.proofs.CaseAnalysis.{by-test}
use Rattle.tries.specs.Tables.{letter_at, child_at, sibling_at, name, Child, Trie, LookedUp}

-- ---- one letter more

pub snoc-length : (l : List ℕ) (c : ℕ) → length (l ++ (c ∷ [])) ≡ suc (length l)
snoc-length l c = length-append l (c ∷ []) ∙ omega arith

same_size : (l m : List ℕ) (c d : ℕ) → l ++ (c ∷ []) ≡ m ++ (d ∷ []) → length l ≡ length m
same_size l m c d e = omega (arith, ap length e, snoc-length l c, snoc-length m d)

pub snoc-front : (l m : List ℕ) (c d : ℕ) → l ++ (c ∷ []) ≡ m ++ (d ∷ []) → l ≡ m
snoc-front l m c d e =
    sym (take-append_seam l (c ∷ [])) ∙ ap (take (length l)) e ∙ ap (λ n. take n (m ++ (d ∷ []))) (same_size l m c d e) ∙ take-append_seam m (d ∷ [])

pub snoc-last : (l m : List ℕ) (c d : ℕ) → l ++ (c ∷ []) ≡ m ++ (d ∷ []) → c ≡ d
snoc-last l m c d e =
    sym (get_or-append_seam l c [] 0) ∙ ap (λ (x : List ℕ). get_or x (length l) 0) e ∙ ap (λ n. get_or (m ++ (d ∷ [])) n 0) (same_size l m c d e) ∙ get_or-append_seam m d [] 0

-- ---- a state is a child by its own letter

pub record ByLetter (names : List (List ℕ)) (t : List ℕ) (s c y : ℕ) : Type 0 where
  pub above : 1 ≤ y
  pub child : Child names t s y
  pub letter : letter_at t y ≡ c

pub by-letter : {names : List (List ℕ)} {t : List ℕ} → Trie names t → (s c y : ℕ) → y < length names → name names y ≡ name names s ++ (c ∷ []) → ByLetter names t s c y
by-letter {names} {t} trie s c zero h e = absurd (omega (arith, ap length (sym trie.root ∙ e), snoc-length (name names s) c))
by-letter {names} {t} trie s c (suc y) h e =
    let p = trie.parent (suc y) (omega arith) h in
    let f : name names p.parent ++ (letter_at t (suc y) ∷ []) ≡ name names s ++ (c ∷ []) = sym p.child ∙ e in
    let last : letter_at t (suc y) ≡ c = snoc-last (name names p.parent) (name names s) (letter_at t (suc y)) c f in
    record { above = omega arith; child = e ∙ ap (λ (d : ℕ). name names s ++ (d ∷ [])) (sym last); letter = last }

-- ---- looking a child up: from the latest child of s down

-- x is 0 or a child of s, and no child by letter c is above it
pub record Searching (names : List (List ℕ)) (t : List ℕ) (s c x : ℕ) : Type 0 where
  pub inside : x < length names
  pub child : 1 ≤ x → Child names t s x
  pub passed : (y : ℕ) → x < y → y < length names → Child names t s y → letter_at t y ≡ c → ⊥

module _ {names : List (List ℕ)} {t : List ℕ} {s : ℕ} (trie : Trie names t) (s< : s < length names) (c : ℕ) where
  pub search-start : Searching names t s c (child_at t s)
  search-start = let l = trie.first s s< in record { inside = l.below; child = l.here; passed = λ y h k e _. l.none y h k e }

  pub search-falls : {x : ℕ} → Searching names t s c x → 1 ≤ x → sibling_at t x < x
  search-falls {x} v h = (trie.sibling s x s< h v.inside (v.child h)).below

  pub search-on : {x : ℕ} → Searching names t s c x → 1 ≤ x → (letter_at t x ≡ c → ⊥) → Searching names t s c (sibling_at t x)
  search-on {x} v h differs =
      let l = trie.sibling s x s< h v.inside (v.child h) in
      record {
        inside = omega (arith, l.below, v.inside);
        child = l.here;
        passed = λ y a b e f.
            by-test (λ _. ⊥) (ltb x y)
            (λ k. v.passed y (ltb-true x y k) b e f)
            (λ k. by-test (λ _. ⊥) (eqb y x) (λ d. differs (ap (letter_at t) (sym (eqb-true y x d)) ∙ f)) (λ d. l.none y a (omega (arith, ltb-false x y k, eqb-false y x d)) e));
      }

  pub search-found : {x : ℕ} → Searching names t s c x → 1 ≤ x → letter_at t x ≡ c → LookedUp names s c x
  search-found {x} v h e = record { inside = v.inside; found = λ _. v.child h ∙ ap (λ (d : ℕ). name names s ++ (d ∷ [])) e; none = λ z. absurd (omega arith) }

  pub search-none : Searching names t s c 0 → LookedUp names s c 0
  search-none v =
      record {
        inside = trie.some;
        found = λ h. absurd (omega arith);
        none = λ _ y h e. let b = by-letter trie s c y h e in v.passed y b.above h b.child b.letter;
      }

-- a state's letter is its first entry
pub letter-kept : (t t' : List ℕ) (y : ℕ) → get_or t' (8 * y + 0) 0 ≡ get_or t (8 * y + 0) 0 → letter_at t' y ≡ letter_at t y
letter-kept t t' y e = ap (λ i. get_or t' i 0) (sym (add-zero (8 * y))) ∙ e ∙ ap (λ i. get_or t i 0) (add-zero (8 * y))
