-- DELTA2's rule letter by letter (`Fits`), and that it fixes the shift (`Shift`): the least of all k ≥ 1 that fit, with no bound on k. Then the entries as engines read them, and what
-- the maker leaves. Assumes nothing.
use mathlib.Core.Path.{◌≡◌, refl, sym, ◌∙◌}
use Prim.Native.Nat.{ℕ, suc, ◌+◌, ◌-◌, ◌*◌, ◌≤◌, ◌<◌}
use native.Mathlib.Omega.{arith}
use mathlib.Core.Bool.{Bool, true, cond, not, ◌||◌}
use mathlib.Core.List.{List}
use lib.ListN.{length, get_or}
use lib.Dec.{eqb, ltb, leb}
use borrow.Author.Tests.{not-true, eqb-true, eqb-false, eq-eqb, ne_eqb, ltb-true, ltb-false, lt-ltb, le-ltb, leb-false, lt-leb}
use Rattle.matching.proofs.CaseAnalysis.{by-test, both, either}
use Rattle.tables.specs.Tables.{least, every, made, Entries}
use Rattle.tables.proofs.Tables.{least-low, least-none, least-holds, least-is, every-all, all-every, made-kept_by, Reads}
use Rattle.suffix_tables.specs.Suffixes.{suffix_made}
use Rattle.suffix_tables.specs.Delta2.{letter, fits, shift, delta2_entry, delta2_table, delta2_made, borders_made}

-- ---- the rule letter by letter

pub record Fits (P : List ℕ) (j k : ℕ) : Type 0 where
  pub again : (i : ℕ) → j < i → i ≤ length P → k < i → letter P (i - k) ≡ letter P i
  pub differs : k < j → letter P (j - k) ≡ letter P j → ⊥

module _ (P : List ℕ) (j k : ℕ) where
  abbrev same : ℕ → Bool
  same i = leb i k || eqb (letter P (i - k)) (letter P i)

  abbrev other : Bool
  other = leb j k || not (eqb (letter P (j - k)) (letter P j))

  pub fits-says : fits P j k ≡ true → Fits P j k
  unfolding fits
  fits-says e =
      let t = both (every (length P - j) j same) other e in
      record {
        again = λ i h l b. eqb-true (letter P (i - k)) (letter P i) (either (leb i k) _ (every-all (length P - j) j same t.0 i h (omega arith)) (lt-leb i k b));
        differs = λ b. eqb-false (letter P (j - k)) (letter P j) (not-true _ (either (leb j k) _ t.1 (lt-leb j k b)));
      }

  pub says-fits : Fits P j k → fits P j k ≡ true
  unfolding fits
  says-fits f =
      rw (all-every (length P - j) j same
      (λ i h l. by-test (λ t. t || eqb (letter P (i - k)) (letter P i) ≡ true) (leb i k) (λ _. refl) (λ e. eq-eqb (letter P (i - k)) (letter P i) (f.again i h (omega arith) (leb-false i k e)))))
      (by-test (λ t. t || not (eqb (letter P (j - k)) (letter P j)) ≡ true) (leb j k) (λ _. refl) (λ e. rw (ne_eqb (letter P (j - k)) (letter P j) (f.differs (leb-false j k e)))))

-- the least k ≥ 1 that fits
pub record Shift (P : List ℕ) (j k : ℕ) : Type 0 where
  pub some : 1 ≤ k
  pub fit : Fits P j k
  pub none : (c : ℕ) → 1 ≤ c → c < k → Fits P j c → ⊥

-- m fits, so the search finds the least
module _ (P : List ℕ) (j : ℕ) (h : 1 ≤ length P) (j≤ : j ≤ length P) where
  all-fits : Fits P j (length P)
  all-fits = record { again = λ i a b c. absurd (omega arith); differs = λ a. absurd (omega arith) }

  pub shift_le : shift P j ≤ length P
  unfolding shift
  shift_le =
      by-test (λ _. shift P j ≤ length P) (ltb (length P) (shift P j))
      (λ e. absurd (least-none (length P) 1 (fits P j) (length P) h (ltb-true (length P) (shift P j) e) (says-fits P j (length P) all-fits)))
      (λ e. ltb-false (length P) (shift P j) e)

  pub shift_rule : Shift P j (shift P j)
  unfolding shift
  shift_rule =
      record {
        some = least-low (length P) 1 (fits P j);
        fit = fits-says P j (least (length P) 1 (fits P j)) (least-holds (length P) 1 (fits P j) (omega (arith, shift_le)));
        none = λ c a b f. least-none (length P) 1 (fits P j) c a b (says-fits P j c f);
      }

  -- the rule fixes it
  pub shift_is : (k : ℕ) → Shift P j k → shift P j ≡ k
  unfolding shift
  shift_is k s =
      let most : k ≤ length P = by-test (λ _. k ≤ length P) (ltb (length P) k) (λ e. absurd (s.none (length P) h (ltb-true (length P) k e) all-fits)) (λ e. ltb-false (length P) k e) in
      least-is (length P) 1 (fits P j) k s.some (omega arith) (λ _. says-fits P j k s.fit) (λ c a b e. s.none c a b (fits-says P j c e))

-- an entry moves the text pointer past the window's end, and by less than 2m
pub delta2-reads : (P : List ℕ) {table : List ℕ} {a p : ℕ} (q : ℕ) → Entries a (length P) (λ q. delta2_entry P (suc q)) table → q < length P → p ≡ a + q
    → Reads (get_or table p 0) (delta2_entry P (suc q)) (length P - q) (2 * length P - 1 - q)
delta2-reads P q t h is =
    let e = t.entry q h is in
    let some = (shift_rule P (suc q) (omega arith) (omega arith)).some in
    let most = shift_le P (suc q) (omega arith) (omega arith) in
    record { is = e; least = omega arith; most = omega arith }

-- what the maker leaves of the table: the borders have no room, the table is too short, the pattern too long, or none of it
module _ (P : List ℕ) (room : ℕ) (table : List ℕ) where
  pub delta2-none : room ≤ length P → table ≡ delta2_made P room table
  unfolding delta2_made
  delta2-none h = rw (le-ltb (length P) room h)

  pub delta2-made : length P < room → delta2_made P room table ≡ made (2 * length P - 1) (delta2_table P) table
  unfolding delta2_made
  delta2-made h = rw (lt-ltb (length P) room h)

  kept-as : table ≡ made (2 * length P - 1) (delta2_table P) table → table ≡ delta2_made P room table
  kept-as e =
      by-test (λ _. table ≡ delta2_made P room table) (ltb (length P) room)
      (λ t. e ∙ sym (delta2-made (ltb-true (length P) room t))) (λ t. delta2-none (ltb-false (length P) room t))

  pub delta2-kept : (length P ≤ length table → length P ≤ 32768 → ⊥) → table ≡ delta2_made P room table
  delta2-kept none = kept-as (made-kept_by (2 * length P - 1) (length P) (λ q. delta2_entry P (suc q)) table (λ h k. none h (omega arith)))

  pub delta2-short : length table < length P → table ≡ delta2_made P room table
  delta2-short h = delta2-kept (λ k l. omega arith)

  pub delta2-long : length P ≤ length table → 32768 < length P → table ≡ delta2_made P room table
  delta2-long h l = delta2-kept (λ k m. omega arith)

-- and of the borders
module _ (P : List ℕ) (size : ℕ) (borders : List ℕ) where
  pub borders-kept : (length P ≤ size → length P ≤ 32768 → ⊥) → borders ≡ borders_made P size borders
  unfolding borders_made
  borders-kept none =
      by-test (λ t. borders ≡ cond (t || ltb 65535 (2 * length P - 1)) borders (suffix_made P borders)) (ltb size (length P)) (λ _. refl)
      (λ t.
      by-test (λ u. borders ≡ cond u borders (suffix_made P borders)) (ltb 65535 (2 * length P - 1)) (λ _. refl)
      (λ u. absurd (none (ltb-false _ _ t) (omega (arith, ltb-false _ _ u)))))

  pub borders-short : size < length P → borders ≡ borders_made P size borders
  borders-short h = borders-kept (λ k l. omega arith)

  pub borders-long : length P ≤ size → 32768 < length P → borders ≡ borders_made P size borders
  borders-long h l = borders-kept (λ k m. omega arith)

  pub borders-made : length P ≤ size → length P ≤ 32768 → borders_made P size borders ≡ suffix_made P borders
  unfolding borders_made
  borders-made h l = rw (le-ltb size (length P) h, le-ltb 65535 (2 * length P - 1) (omega arith))
