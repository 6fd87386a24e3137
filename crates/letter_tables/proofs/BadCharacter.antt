-- Laws of the Sunday, Horspool and DELTA1 entries, from their rule alone: the values they can have, and that no occurrence has a text letter under a
-- position of the pattern that comes after the letter's last one. Assumes nothing.
use mathlib.Core.Path.{◌≡◌, refl, sym, ◌∙◌}
use Prim.Native.Nat.{ℕ, suc, ◌+◌, ◌-◌, ◌≤◌, ◌<◌}
use native.Mathlib.Omega.{arith}
use mathlib.Core.List.{List}
use mathlib.Core.Bool.{cond, true≢false}
use lib.ListN.{length, get_or}
use lib.Dec.{eqb, ltb}
use borrow.Author.Tests.{eq-eqb, eqb-true, ltb-true, ltb-false}
use Rattle.matching.proofs.CaseAnalysis.{by-test, at_same}
use Rattle.matching.proofs.Occurrences.{Stands}
use Rattle.tables.specs.Tables.{largest, Entries}
use Rattle.letter_tables.specs.BadCharacter.{last_in, sunday_entry, horspool_entry, delta1_entry, sunday_made, horspool_made}
use Rattle.tables.proofs.Tables.{largest-le, largest-none, largest-holds, Filled, filled, Reads}

pub last_in-le : (P : List ℕ) (n c : ℕ) → last_in P n c ≤ n
unfolding last_in
last_in-le P n c = largest-le n (λ i. eqb (get_or P i 0) c)

-- no later letter is c
pub last_in-none : (P : List ℕ) (n c i : ℕ) → last_in P n c ≤ i → i < n → get_or P i 0 ≡ c → ⊥
unfolding last_in
last_in-none P n c i h l e = true≢false (sym (eq-eqb (get_or P i 0) c e) ∙ largest-none n (λ i. eqb (get_or P i 0) c) i h l)

-- and the last one is
pub last_in-letter : (P : List ℕ) (n c : ℕ) → 1 ≤ last_in P n c → get_or P (last_in P n c - 1) 0 ≡ c
unfolding last_in
last_in-letter P n c h = eqb-true (get_or P (largest n (λ i. eqb (get_or P i 0) c) - 1) 0) c (largest-holds n (λ i. eqb (get_or P i 0) c) h)

-- one letter more
pub last_in-more : (P : List ℕ) (n c : ℕ) → last_in P (suc n) c ≡ cond (eqb (get_or P n 0) c) (suc n) (last_in P n c)
unfolding last_in largest
last_in-more P n c = refl

pub last_in-zero : (P : List ℕ) (c : ℕ) → last_in P 0 c ≡ 0
unfolding last_in largest
last_in-zero P c = refl

-- the text letter at place p lies under none of the positions last_in + 1 to n of an occurrence at k: the law behind every bad-character move
pub bad-character : (P T : List ℕ) (n p k : ℕ) → n ≤ length P → k ≤ p → p < k + n → k + last_in P n (get_or T p 0) ≤ p → Stands P T k → ⊥
bad-character P T n p k h l b last st = last_in-none P n (get_or T p 0) (p - k) (omega arith) (omega arith) (st.letters (p - k) (omega arith) ∙ at_same T (omega arith))

-- ---- the entries' values

pub sunday_entry-pos : (P : List ℕ) (c : ℕ) → 1 ≤ sunday_entry P c
sunday_entry-pos P c = omega (arith, last_in-le P (length P) c)

pub sunday_entry-le : (P : List ℕ) (c : ℕ) → sunday_entry P c ≤ length P + 1
sunday_entry-le P c = omega arith

pub horspool_entry-pos : (P : List ℕ) (c : ℕ) → 1 ≤ length P → 1 ≤ horspool_entry P c
horspool_entry-pos P c h = omega (arith, last_in-le P (length P - 1) c)

pub horspool_entry-le : (P : List ℕ) (c : ℕ) → horspool_entry P c ≤ length P
horspool_entry-le P c = omega arith

pub delta1_entry-le : (P : List ℕ) (c : ℕ) → delta1_entry P c ≤ length P
delta1_entry-le P c = omega arith

-- 0 is DELTA1 of the last letter alone
pub delta1_entry-pos : (P : List ℕ) (c : ℕ) → 1 ≤ length P → (get_or P (length P - 1) 0 ≡ c → ⊥) → 1 ≤ delta1_entry P c
delta1_entry-pos P c h other =
    by-test (λ _. 1 ≤ delta1_entry P c) (ltb (last_in P (length P) c) (length P))
    (λ t. omega (arith, ltb-true (last_in P (length P) c) (length P) t))
    (λ t. let full : length P ≤ last_in P (length P) c = ltb-false (last_in P (length P) c) (length P) t in absurd (other (at_same P (omega (arith, last_in-le P (length P) c)) ∙ last_in-letter P (length P) c (omega arith))))

-- and one below m is that of a letter that stands so far before the last
pub delta1_entry-letter : (P : List ℕ) (c : ℕ) → delta1_entry P c < length P → get_or P (length P - 1 - delta1_entry P c) 0 ≡ c
delta1_entry-letter P c h = at_same P (omega (arith, last_in-le P (length P) c)) ∙ last_in-letter P (length P) c (omega arith)

-- ---- the tables as their makers leave them, and the entries as engines read them

pub sunday-filled : (P : List ℕ) {table table' : List ℕ} → 256 ≤ length table → length P ≤ 1024 → table' ≡ sunday_made P table → Filled 256 (sunday_entry P) table table'
sunday-filled P h l e = filled (length P + 1) 256 (sunday_entry P) h (omega arith) e

pub horspool-filled : (P : List ℕ) {table table' : List ℕ} → 256 ≤ length table → length P ≤ 1024 → table' ≡ horspool_made P table → Filled 256 (horspool_entry P) table table'
horspool-filled P h l e = filled (length P) 256 (horspool_entry P) h (omega arith) e

pub sunday-reads : (P : List ℕ) {table : List ℕ} (c : ℕ) → Entries 0 256 (sunday_entry P) table → c < 256 → Reads (get_or table c 0) (sunday_entry P c) 1 (length P + 1)
sunday-reads P c t h = let e = t.entry c h {p = c} (omega arith) in record { is = e; least = omega (arith, sunday_entry-pos P c); most = omega (arith, sunday_entry-le P c) }

pub horspool-reads : (P : List ℕ) {table : List ℕ} (c : ℕ) → 1 ≤ length P → Entries 0 256 (horspool_entry P) table → c < 256 → Reads (get_or table c 0) (horspool_entry P c) 1 (length P)
horspool-reads P c some t h = let e = t.entry c h {p = c} (omega arith) in record { is = e; least = omega (arith, horspool_entry-pos P c some); most = omega (arith, horspool_entry-le P c) }

pub delta1-reads : (P : List ℕ) {table : List ℕ} (c : ℕ) → Entries 0 256 (delta1_entry P) table → c < 256 → Reads (get_or table c 0) (delta1_entry P c) 0 (length P)
delta1-reads P c t h = let e = t.entry c h {p = c} (omega arith) in record { is = e; least = omega arith; most = omega (arith, delta1_entry-le P c) }
