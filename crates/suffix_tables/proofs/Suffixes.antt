-- The borders of the suffixes, from their rule alone: what it says letter by letter (`Next`), that it fixes the entry, and how the maker finds an entry from those after it: the chain of
-- places whose suffixes stand again at s + 1 gives the next one of s. Assumes nothing.
use mathlib.Core.Path.{◌≡◌, sym, ◌∙◌}
use Prim.Native.Nat.{ℕ, suc, ◌+◌, ◌-◌, ◌≤◌, ◌<◌}
use native.Mathlib.Omega.{arith}
use mathlib.Core.List.{List}
use lib.ListN.{length, get_or, drop, set, length-set}
use lib.Seq.{get_or-set_same, get_or-set_other, drop-set-lt}
use lib.Dec.{eqb, ltb}
use borrow.Author.Tests.{eqb-true, eqb-false, ltb-true, ltb-false}
use Rattle.matching.proofs.CaseAnalysis.{by-test, at_same}
use Rattle.tables.specs.Tables.{least, Entries}
use Rattle.tables.proofs.Tables.{least-low, least-most, least-none, least-holds, least-is, ruled-made}
use Rattle.suffix_tables.specs.Suffixes.{again, suffix_entry, suffix_made}
use Rattle.suffix_tables.specs.Passes.{Again}
use Rattle.suffix_tables.proofs.Again.{again-none, again-trans, again-nested, again-less, again-letter, again-more, again-says, says-again}

-- ---- the rule letter by letter

-- t is the next place after p whose suffix stands again at p: m at the latest, where no letters are left, and m + 1 for p = m
pub record Next (P : List ℕ) (p t : ℕ) : Type 0 where
  pub later : p < t
  pub most : t ≤ suc (length P)
  pub inside : p < length P → t ≤ length P
  pub again : t ≤ length P → Again P t p
  pub first : (r : ℕ) → p < r → r < t → Again P r p → ⊥

pub suffix_entry-rule : (P : List ℕ) (p : ℕ) → p ≤ length P → Next P p (suffix_entry P p)
unfolding suffix_entry
suffix_entry-rule P p h =
    let m : ℕ = length P in
    let t : ℕ = least (m - p) (suc p) (λ t. again P t p) in
    let low : suc p ≤ t = least-low (m - p) (suc p) (λ t. again P t p) in
    let most : t ≤ suc p + (m - p) = least-most (m - p) (suc p) (λ t. again P t p) in
    let none : (r : ℕ) → suc p ≤ r → r < t → Again P r p → ⊥ = λ r a b g. least-none (m - p) (suc p) (λ t. again P t p) r a b (says-again (omega arith) g) in
    record {
      later = low;
      most = omega arith;
      inside = λ l. by-test (λ _. t ≤ m) (ltb m t) (λ e. absurd (none m l (ltb-true m t e) (again-none P m p (omega arith)))) (λ e. ltb-false m t e);
      again = λ l. again-says (omega arith) (least-holds (m - p) (suc p) (λ t. again P t p) (omega arith));
      first = none;
    }

-- the rule fixes the entry
pub suffix_entry-is : (P : List ℕ) (p t : ℕ) → p ≤ length P → Next P p t → suffix_entry P p ≡ t
unfolding suffix_entry
suffix_entry-is P p t h n =
    least-is (length P - p) (suc p) (λ t. again P t p) t n.later (omega (arith, n.most))
    (λ l. says-again (omega (arith, n.later)) (n.again (omega arith)))
    (λ r a b e. n.first r a b (again-says (omega arith) e))

-- an entry as code reads it
pub suffix-reads : (P : List ℕ) {table : List ℕ} (p : ℕ) → Entries 0 (length P + 1) (suffix_entry P) table → p ≤ length P → Next P p (get_or table p 0)
suffix-reads P p t h = let e = t.entry p (omega arith) {p = p} (omega arith) in rw e (suffix_entry-rule P p h)

-- ---- how the maker finds an entry

-- the letters from t on stand again from s + 1 on, or t is m + 1; of no place before t do they, with letter s before them
pub record Chain (P : List ℕ) (s t : ℕ) : Type 0 where
  pub later : suc s < t
  pub most : t ≤ suc (length P)
  pub again : t ≤ length P → Again P t (suc s)
  pub above : (p : ℕ) → suc s < suc p → suc p < t → Again P (suc p) (suc s) → get_or P s 0 ≡ get_or P p 0 → ⊥

module _ {P : List ℕ} {s : ℕ} where
  pub chain-start : {n t : ℕ} → n ≡ suc s → Next P n t → Chain P s t
  chain-start e n = start (rw e at n)
    where
      start : {t : ℕ} → Next P (suc s) t → Chain P s t
      start n = record { later = n.later; most = n.most; again = n.again; above = λ p h l a _. n.first (suc p) h l a }

  pub chain-on : {t u : ℕ} → t ≤ length P → Chain P s t → (get_or P (t - 1) 0 ≡ get_or P s 0 → ⊥) → Next P t u → Chain P s u
  chain-on {t} {u} h c differs n =
      let l : suc s < t = c.later in
      record {
        later = omega (arith, n.later);
        most = n.most;
        again = λ k. again-trans (omega (arith, n.later)) (n.again k) (c.again h);
        above = λ p a b g e.
            by-test (λ _. ⊥) (ltb (suc p) t)
            (λ x. c.above p a (ltb-true (suc p) t x) g e)
            (λ x.
            let low : t ≤ suc p = ltb-false (suc p) t x in
            by-test (λ _. ⊥) (eqb (suc p) t)
            (λ y. differs (at_same P (omega (arith, eqb-true (suc p) t y)) ∙ sym e))
            (λ y. n.first (suc p) (omega (arith, eqb-false (suc p) t y)) b (again-nested low (c.again h) g)));
      }

  -- where the chain ends, at m + 1 or with letter s before it
  ended : (p : ℕ) → s < length P → Chain P s (suc p) → (suc p ≤ length P → get_or P p 0 ≡ get_or P s 0) → Next P s p
  ended p h c same =
      let l : suc s < suc p = c.later in
      let k : suc p ≤ suc (length P) = c.most in
      record {
        later = omega arith;
        most = omega arith;
        inside = λ _. omega arith;
        again = λ _.
            by-test (λ _. Again P p s) (ltb p (length P))
            (λ x. let i : p < length P = ltb-true p (length P) x in again-more (c.again (omega arith)) (sym (same (omega arith))))
            (λ x. again-none P p s (ltb-false p (length P) x));
        first = λ r a b g. c.above r (omega arith) (omega arith) (again-less g) (again-letter (omega arith) g);
      }

  pub chain-ends : (t : ℕ) → s < length P → Chain P s t → (t ≤ length P → get_or P (t - 1) 0 ≡ get_or P s 0) → Next P s (t - 1)
  chain-ends t h c same = let z : suc (t - 1) ≡ t = omega (arith, c.later) in ended (t - 1) h (rw z c) (λ l. same (omega arith))

-- ---- the lent table while it is filled from its end

-- the places from s on have their entries in the table, which was table₀, and e is that of s
pub record Made (P : List ℕ) (s e : ℕ) (table₀ table : List ℕ) : Type 0 where
  pub room : length P < length table
  pub long : length table ≡ length table₀
  pub kept : drop (length P + 1) table ≡ drop (length P + 1) table₀
  pub here : Next P s e
  pub entry : (p : ℕ) → s ≤ p → p ≤ length P → Next P p (get_or table p 0)

-- one place more, whose entry the chain has found
pub made-next : {P table₀ table : List ℕ} {n e : ℕ} (s u : ℕ) → n ≡ suc s → s < length P → Made P n e table₀ table → Next P s u → Made P s u table₀ (set table s u)
made-next {P} {table₀} {table} s u next h m n =
    record {
      room = omega (arith, m.room, length-set table s u);
      long = length-set table s u ∙ m.long;
      kept = drop-set-lt (length P + 1) table s u (omega arith) ∙ m.kept;
      here = n;
      entry = λ p l k.
          by-test (λ _. Next P p (get_or (set table s u) p 0)) (eqb p s)
          (λ x. rw (eqb-true p s x, get_or-set_same table s u 0 (omega (arith, m.room))) n)
          (λ x. rw (get_or-set_other table s p u 0 (eqb-false p s x)) (m.entry p (omega (arith, eqb-false p s x)) k));
    }

-- all places are done
pub made-all : {P table₀ table : List ℕ} {s e : ℕ} → s ≤ 0 → length P ≤ 65534 → Made P s e table₀ table → table ≡ suffix_made P table₀
made-all {P} done small m =
    ruled-made (length P + 1) (omega arith)
    (record { entry = λ p k. sym (suffix_entry-is P p _ (omega arith) (m.entry p (omega arith) (omega arith))); kept = m.kept; room = omega (arith, m.room); long = m.long })
