-- The KMP entries and the longest proper border, from their rules alone: what a rule says letter by letter (`Entry`, `Longest`), that it fixes the entry, and how each entry
-- follows from those before it, as the table maker finds them. Assumes nothing.
use mathlib.Core.Path.{◌≡◌, sym, ◌∙◌}
use Prim.Native.Nat.{ℕ, zero, suc, ◌+◌, ◌-◌, ◌≤◌, ◌<◌}
use native.Mathlib.Omega.{arith}
use mathlib.Core.Bool.{true≢false}
use mathlib.Core.Logic.{⊎_elim}
use mathlib.Core.List.{List}
use lib.ListN.{length, get_or}
use lib.Dec.{eqb, ltb}
use borrow.Author.Tests.{eqb-true, eqb-false, ltb-true, ltb-false}
use Rattle.std.proofs.lemmas.Bool.{cases_eq, cases_lt}
use Rattle.matching.proofs.CaseAnalysis.{by-test, at_same}
use Rattle.tables.specs.Tables.{largest, Entries}
use Rattle.border_tables.specs.Kmp.{border, longest_border, strong, kmp_entry, kmp_made}
use Rattle.tables.proofs.Tables.{largest-le, largest-none, largest-holds, largest-is, Filled, filled, Reads}
use Rattle.border_tables.proofs.Borders.{Border, border-zero, border-trans, border-nested, border-more, border-less, border-letter, border-says, says-border, strong-border, strong-differs, border-strong}

-- ---- the rule letter by letter, for b = b[q + 1]

pub record Entry (P : List ℕ) (q b : ℕ) : Type 0 where
  pub below : b ≤ q
  pub border : 1 ≤ b → Border P q (b - 1)
  pub differs : 1 ≤ b → q < length P → get_or P (b - 1) 0 ≡ get_or P q 0 → ⊥
  -- every longer proper border has letter q + 1 after it
  pub longest : (k : ℕ) → b ≤ k → k < q → Border P q k → (q < length P → get_or P k 0 ≡ get_or P q 0 → ⊥) → ⊥

pub kmp_entry-le : (P : List ℕ) (q : ℕ) → kmp_entry P q ≤ q
unfolding kmp_entry
kmp_entry-le P q = largest-le q (strong P q)

pub kmp_entry-rule : (P : List ℕ) (q : ℕ) → q ≤ length P → Entry P q (kmp_entry P q)
unfolding kmp_entry
kmp_entry-rule P q l =
    let le : largest q (strong P q) ≤ q = largest-le q (strong P q) in
    record {
      below = le;
      border = λ h. strong-border P q (largest q (strong P q) - 1) (omega arith) l (largest-holds q (strong P q) h);
      differs = λ h s. strong-differs P q (largest q (strong P q) - 1) s (largest-holds q (strong P q) h);
      longest = λ k h s b d. true≢false (sym (border-strong P q k (omega arith) l b d) ∙ largest-none q (strong P q) k h s);
    }

-- the rule fixes the entry
pub kmp_entry-is : (P : List ℕ) (q b : ℕ) → q ≤ length P → Entry P q b → kmp_entry P q ≡ b
unfolding kmp_entry
kmp_entry-is P q b l r =
    largest-is q (strong P q) b r.below
    (λ h. border-strong P q (b - 1) (omega (arith, r.below)) l (r.border h) (r.differs h))
    (λ k h s f. r.longest k h s (strong-border P q k (omega arith) l f) (λ t. strong-differs P q k t f))

-- the table as its maker leaves it, and an entry as an engine reads it
pub kmp-filled : (P : List ℕ) {table table' : List ℕ} → length P + 1 ≤ length table → length P ≤ 1024 → table' ≡ kmp_made P table → Filled (length P + 1) (kmp_entry P) table table'
kmp-filled P h l e = filled (length P) (length P + 1) (kmp_entry P) h (omega arith) e

pub kmp-reads : (P : List ℕ) {table : List ℕ} {a p q : ℕ} → Entries a (length P + 1) (kmp_entry P) table → q ≤ length P → p ≡ a + q → Reads (get_or table p 0) (kmp_entry P q) 0 q
kmp-reads P {q = q} t h is = let e = t.entry q (omega arith) is in record { is = e; least = omega arith; most = omega (arith, kmp_entry-le P q) }

-- ---- the longest proper border

-- j is 1 more than the longest proper border of the first q letters; 0 where q is 0
pub record Longest (P : List ℕ) (q j : ℕ) : Type 0 where
  pub low : j ≤ q
  pub border : 1 ≤ j → Border P q (j - 1)
  pub above : (k : ℕ) → j ≤ k → k < q → Border P q k → ⊥

-- the empty border is one, so there is a longest
pub longest_border-rule : (P : List ℕ) → 1 ≤ length P → Longest P (length P) (suc (longest_border P))
unfolding longest_border
longest_border-rule P h =
    let m : ℕ = length P in
    let j : ℕ = largest m (border P m) in
    let le : j ≤ m = largest-le m (border P m) in
    let some : 1 ≤ j =
    by-test (λ _. 1 ≤ j) (eqb j 0)
    (λ t. absurd (true≢false (sym (says-border P m 0 (omega arith) (omega arith) (border-zero P m)) ∙ largest-none m (border P m) 0 (omega (arith, eqb-true j 0 t)) h)))
    (λ t. omega (arith, eqb-false j 0 t)) in
    let z : suc (j - 1) ≡ j = omega arith in
    rw z
    (record {
      low = le;
      border = λ l. border-says P m (j - 1) (omega arith) (omega arith) (largest-holds m (border P m) l);
      above = λ k l s b. true≢false (sym (says-border P m k (omega arith) (omega arith) b) ∙ largest-none m (border P m) k l s);
    })

-- ---- how the maker finds an entry

-- j is 0 or 1 more than a border of the first q letters; no longer proper border has letter q + 1 after it
pub record Chain (P : List ℕ) (q j : ℕ) : Type 0 where
  pub low : j ≤ q
  pub border : 1 ≤ j → Border P q (j - 1)
  pub above : (k : ℕ) → j ≤ k → k < q → Border P q k → get_or P k 0 ≡ get_or P q 0 → ⊥

pub chain-start : (P : List ℕ) → Chain P 0 0
chain-start P = record { low = omega arith; border = λ h. absurd (omega arith); above = λ k h l. absurd (omega arith) }

pub longest-chain : {P : List ℕ} {q j : ℕ} → Longest P q j → Chain P q j
longest-chain w = record { low = w.low; border = w.border; above = λ k h l b _. w.above k h l b }

-- following the entry b[j] passes over no border with letter q + 1 after it
pub chain-on : (P : List ℕ) (q j : ℕ) → q < length P → 1 ≤ j → Chain P q j → (get_or P (j - 1) 0 ≡ get_or P q 0 → ⊥) → Chain P q (kmp_entry P (j - 1))
chain-on P q j l h c differs =
    let lo : j ≤ q = c.low in
    let r = kmp_entry-rule P (j - 1) (omega arith) in
    record {
      low = omega (arith, r.below);
      border = λ s. border-trans P q (j - 1) (kmp_entry P (j - 1) - 1) (omega (arith, r.below)) (omega arith) (c.border h) (r.border s);
      above = λ k s t e f.
          by-test (λ _. ⊥) (ltb (j - 1) k)
          (λ x. c.above k (omega (arith, ltb-true (j - 1) k x)) t e f)
          (λ x.
          let low : k ≤ j - 1 = ltb-false (j - 1) k x in
          by-test (λ _. ⊥) (eqb k (j - 1))
          (λ y. differs (at_same P (sym (eqb-true k (j - 1) y)) ∙ f))
          (λ y. r.longest k s (omega (arith, eqb-false k (j - 1) y)) (border-nested P q (j - 1) k low (omega arith) (c.border h) e) (λ _ g. differs (sym g ∙ f))));
    }

-- where the chain ends, at 0 or at a border with letter q + 1 after it, is the longest proper border of one letter more
pub chain-ends : (P : List ℕ) (q j : ℕ) → Chain P q j → (1 ≤ j → get_or P (j - 1) 0 ≡ get_or P q 0) → Longest P (suc q) (suc j)
chain-ends P q j c same = record { low = omega (arith, c.low); border = λ _. ends j c same; above = longer }
  where
    one_less : (n : ℕ) → suc n - 1 ≡ n
    one_less n = omega arith

    ends : (j : ℕ) → Chain P q j → (1 ≤ j → get_or P (j - 1) 0 ≡ get_or P q 0) → Border P (suc q) (suc j - 1)
    ends zero c same = rw (one_less 0) (border-zero P (suc q))
    ends (suc j) c same = rw (one_less (suc j)) (border-more P q j (omega (arith, c.low)) (rw (one_less j) at (c.border (omega arith))) (rw (one_less j) at (same (omega arith))))

    longer : (k : ℕ) → suc j ≤ k → k < suc q → Border P (suc q) k → ⊥
    longer zero h l b = omega arith
    longer (suc k) h l b = c.above k (omega arith) (omega arith) (border-less P q k (omega arith) b) (border-letter P q k (omega arith) b)

-- b[q + 1] where letter j differs from letter q + 1, or there is none: j itself
pub entry-longest : (P : List ℕ) (q j : ℕ) → q ≤ length P → Longest P q j → (q < length P → get_or P (j - 1) 0 ≡ get_or P q 0 → ⊥) → kmp_entry P q ≡ j
entry-longest P q j l w differs = kmp_entry-is P q j l (record { below = w.low; border = w.border; differs = λ _. differs; longest = λ k h s b _. w.above k h s b })

-- where they are the same letter: b[j]
pub entry-same : (P : List ℕ) (q j : ℕ) → q < length P → Longest P q j → 1 ≤ j → get_or P (j - 1) 0 ≡ get_or P q 0 → kmp_entry P q ≡ kmp_entry P (j - 1)
entry-same P q j l w h same =
    let lo : j ≤ q = w.low in
    let r = kmp_entry-rule P (j - 1) (omega arith) in
    kmp_entry-is P q (kmp_entry P (j - 1)) (omega arith)
    (record {
      below = omega (arith, r.below);
      border = λ s. border-trans P q (j - 1) (kmp_entry P (j - 1) - 1) (omega (arith, r.below)) (omega arith) (w.border h) (r.border s);
      differs = λ s _ g. r.differs s (omega arith) (g ∙ sym same);
      longest = λ k s t b d.
          by-test (λ _. ⊥) (ltb (j - 1) k)
          (λ x. w.above k (omega (arith, ltb-true (j - 1) k x)) t b)
          (λ x.
          let low : k ≤ j - 1 = ltb-false (j - 1) k x in
          by-test (λ _. ⊥) (eqb k (j - 1))
          (λ y. d l (at_same P (eqb-true k (j - 1) y) ∙ same))
          (λ y. r.longest k s (omega (arith, eqb-false k (j - 1) y)) (border-nested P q (j - 1) k low (omega arith) (w.border h) b) (λ _ g. d l (g ∙ same))));
    })

-- so the entry is b[j] where there is a letter q + 1 and it is letter j, and j where not
pub entry-next : (P : List ℕ) (q j b v : ℕ) → Longest P q j → 1 ≤ j → q ≤ length P → b ≡ kmp_entry P (j - 1) → (q < length P → get_or P q 0 ≡ get_or P (j - 1) 0 → v ≡ b)
    → ((q < length P → get_or P q 0 ≡ get_or P (j - 1) 0 → ⊥) → v ≡ j) → v ≡ kmp_entry P q
entry-next P q j b v w h l is same other =
    ⊎_elim
    (λ less. ⊎_elim (λ e. same less e ∙ is ∙ sym (entry-same P q j less w h (sym e))) (λ d. last (λ _ e. d e)) (cases_eq (get_or P q 0) (get_or P (j - 1) 0)))
    (λ most. last (λ less _. absurd (omega arith)))
    (cases_lt q (length P))
  where
    last : (q < length P → get_or P q 0 ≡ get_or P (j - 1) 0 → ⊥) → v ≡ kmp_entry P q
    last differs = other differs ∙ sym (entry-longest P q j l w (λ less e. differs less (sym e)))
