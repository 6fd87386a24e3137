-- The shifts of the improved engine, from their rule alone: which of the two a shift is (`shift-cases`), the values it can have, and the table as engines read it. Assumes nothing.
use mathlib.Core.Path.{◌≡◌, sym, ◌∙◌}
use Prim.Native.Nat.{ℕ, ◌+◌, ◌-◌, ◌≤◌, ◌<◌, max}
use mathlib.Core.Logic.{◌⊎◌, inl, inr, ⊎_elim}
use native.Mathlib.Omega.{arith}
use mathlib.Core.List.{List}
use lib.ListN.{length, get_or, length-append}
use lib.Dec.{eqb, ltb, leb}
use borrow.Author.Tests.{eqb-true, eqb-false, ltb-true, ltb-false, leb-true, leb-false, le-leb, lt-leb}
use Rattle.std.proofs.lemmas.Bool.{cases_lt}
use Rattle.matching.proofs.CaseAnalysis.{by-test}
use Rattle.tables.specs.Tables.{Entries}
use Rattle.letter_tables.specs.Gaps.{md}
use Rattle.border_tables.specs.Kmp.{kmp_entry, kmp_table}
use Rattle.border_tables.specs.MaxShift.{kmp_shift, max_shift, max_shift_table, border_tables, max_shift_made}
use Rattle.tables.proofs.Tables.{length-tabulate, then, tabulate-then, Ruled, made-kept, ruled-made, Reads}
use Rattle.letter_tables.proofs.Gaps.{widest-le, md-pos}
use Rattle.border_tables.proofs.Borders.{border-zero}
use Rattle.border_tables.proofs.Kmp.{kmp_entry-le, kmp_entry-rule}

-- ---- KMP's shifts

pub kmp_shift-pos : (P : List ℕ) (q : ℕ) → 1 ≤ kmp_shift P q
kmp_shift-pos P q = omega (arith, kmp_entry-le P q)

-- after the whole pattern the empty border is enough, so b[m + 1] is at least 1
entry_whole : (P : List ℕ) → 1 ≤ length P → 1 ≤ kmp_entry P (length P)
entry_whole P h =
    let m : ℕ = length P in
    by-test (λ _. 1 ≤ kmp_entry P m) (eqb (kmp_entry P m) 0)
    (λ t. absurd ((kmp_entry-rule P m (omega arith)).longest 0 (omega (arith, eqb-true (kmp_entry P m) 0 t)) h (border-zero P m) (λ l. absurd (omega arith))))
    (λ t. omega (arith, eqb-false (kmp_entry P m) 0 t))

pub kmp_shift-le : (P : List ℕ) (q : ℕ) → q ≤ length P → kmp_shift P q ≤ max 1 (length P)
kmp_shift-le P q h =
    by-test (λ _. kmp_shift P q ≤ max 1 (length P)) (ltb q (length P))
    (λ t. omega (arith, ltb-true q (length P) t))
    (λ t.
    let whole : q ≡ length P = omega (arith, ltb-false q (length P) t) in
    by-test (λ _. kmp_shift P q ≤ max 1 (length P)) (eqb (length P) 0)
    (λ z. omega (arith, eqb-true (length P) 0 z))
    (λ z. rw whole (omega (arith, entry_whole P (omega (arith, eqb-false (length P) 0 z))))))

-- ---- which of the two a shift is

module _ (P : List ℕ) (q : ℕ) where
  pub shift-wide : kmp_shift P q ≤ md P → q ≤ md P → max_shift P q ≡ md P
  unfolding max_shift
  shift-wide h l = rw (le-leb (kmp_shift P q) (md P) h, le-leb q (md P) l)

  pub shift-more : md P < kmp_shift P q → max_shift P q ≡ kmp_shift P q
  unfolding max_shift
  shift-more h = rw (lt-leb (kmp_shift P q) (md P) h)

  pub shift-deep : kmp_shift P q ≤ md P → md P < q → max_shift P q ≡ kmp_shift P q
  unfolding max_shift
  shift-deep h l = rw (le-leb (kmp_shift P q) (md P) h, lt-leb q (md P) l)

  -- md, and then all q letters that were equal lie before it; or KMP's
  pub shift-cases : ((max_shift P q ≡ md P) × (q ≤ md P)) ⊎ (max_shift P q ≡ kmp_shift P q)
  shift-cases =
      by-test (λ _. ((max_shift P q ≡ md P) × (q ≤ md P)) ⊎ (max_shift P q ≡ kmp_shift P q)) (leb (kmp_shift P q) (md P))
      (λ t.
      by-test (λ _. ((max_shift P q ≡ md P) × (q ≤ md P)) ⊎ (max_shift P q ≡ kmp_shift P q)) (leb q (md P))
      (λ u. inl (shift-wide (leb-true (kmp_shift P q) (md P) t) (leb-true q (md P) u), leb-true q (md P) u))
      (λ u. inr (shift-deep (leb-true (kmp_shift P q) (md P) t) (leb-false q (md P) u))))
      (λ t. inr (shift-more (leb-false (kmp_shift P q) (md P) t)))

  pub max_shift-pos : 1 ≤ length P → 1 ≤ max_shift P q
  max_shift-pos h = ⊎_elim (λ w. omega (arith, w.0, md-pos P h)) (λ w. omega (arith, w, kmp_shift-pos P q)) shift-cases

  pub max_shift-le : q ≤ length P → max_shift P q ≤ max 1 (length P)
  max_shift-le h = ⊎_elim (λ w. omega (arith, w.0, widest-le P (length P))) (λ w. omega (arith, w, kmp_shift-le P q h)) shift-cases

-- a shift as the maker finds it, by the entry b and the widest gap
pub shift-next : (P : List ℕ) (q b width v : ℕ) → b ≡ kmp_entry P q → width ≡ md P → (q - b + 1 ≤ width → q ≤ width → v ≡ width) → ((q - b + 1 ≤ width → q ≤ width → ⊥) → v ≡ q - b + 1) → v ≡ max_shift P q
shift-next P q b width v is md-is wide other =
    let by : q - b + 1 ≡ kmp_shift P q = omega (arith, kmp_entry-le P q) in
    ⊎_elim
    (λ a. other (λ h _. absurd (omega arith)) ∙ by ∙ sym (shift-more P q (omega arith)))
    (λ a.
    ⊎_elim
    (λ b. other (λ _ h. absurd (omega arith)) ∙ by ∙ sym (shift-deep P q (omega arith) (omega arith)))
    (λ b. wide (omega arith) (omega arith) ∙ md-is ∙ sym (shift-wide P q (omega arith) (omega arith)))
    (cases_lt (md P) q))
    (cases_lt (md P) (kmp_shift P q))

-- ---- the table: as its maker leaves it, and an entry as an engine reads it

pub border_tables-length : (P : List ℕ) → length (border_tables P) ≡ (length P + 1) + (length P + 1)
border_tables-length P = length-append (kmp_table P) (max_shift_table P) ∙ omega (arith, length-tabulate (length P + 1) (kmp_entry P), length-tabulate (length P + 1) (max_shift P))

-- the table is shorter than both, or the pattern too long
pub max-kept : (P table : List ℕ) → ((length P + 1) + (length P + 1) ≤ length table → length P ≤ 65535 → ⊥) → table ≡ max_shift_made P table
max-kept P table none = made-kept (length P) (border_tables P) table (λ h k. none (omega (arith, border_tables-length P)) k)

pub max-short : (P table : List ℕ) → length table < (length P + 1) + (length P + 1) → table ≡ max_shift_made P table
max-short P table h = max-kept P table (λ k l. omega arith)

pub max-long : (P table : List ℕ) → 65535 < length P → table ≡ max_shift_made P table
max-long P table h = max-kept P table (λ k l. omega arith)

-- a table that has all shifts after the KMP entries
pub max-made : (P : List ℕ) (n : ℕ) {table₀ table : List ℕ} → length P ≤ 65535 → n ≡ length P + 1 → Ruled (length P + 1 + n) (then (length P + 1) (kmp_entry P) (max_shift P)) table₀ table → table ≡ max_shift_made P table₀
max-made P n {table₀} {table} small all r =
    rw (← tabulate-then (length P + 1) (length P + 1) (kmp_entry P) (max_shift P)) (ruled-made (length P) small (rw all at r))

pub max-reads : (P : List ℕ) {table : List ℕ} {a p q : ℕ} → 1 ≤ length P → Entries a (length P + 1) (max_shift P) table → q ≤ length P → p ≡ a + q → Reads (get_or table p 0) (max_shift P q) 1 (length P)
max-reads P {q = q} some t h is =
    let e = t.entry q (omega arith) is in
    record { is = e; least = omega (arith, max_shift-pos P q some); most = omega (arith, max_shift-le P q h) }
