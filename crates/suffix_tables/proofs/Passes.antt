-- How DELTA2's maker finds the entries: first by the borders of the whole pattern (`Front`), then, place after place, those whose letters stand again after it,
-- behind another letter (`Walk`). Assumes nothing.
use mathlib.Core.Path.{◌≡◌, refl, sym, ◌∙◌}
use Prim.Native.Nat.{ℕ, suc, ◌+◌, ◌-◌, ◌≤◌, ◌<◌}
use native.Mathlib.Omega.{arith}
use mathlib.Core.List.{List, ◌++◌}
use mathlib.Core.Logic.{⊎_elim}
use Rattle.std.proofs.lemmas.Bool.{cases_lt}
use Rattle.tables.specs.Tables.{Entries}
use Rattle.suffix_tables.specs.Suffixes.{suffix_entry}
use lib.ListN.{length, get_or, drop, set, length-set}
use lib.Seq.{get_or-set_same, get_or-set_other, drop-set-lt}
use lib.Dec.{eqb, ltb}
use borrow.Author.Tests.{eqb-true, eqb-false, ltb-true, ltb-false}
use Rattle.matching.proofs.CaseAnalysis.{by-test, at_same}
use Rattle.tables.proofs.Tables.{ruled-is}
use Rattle.suffix_tables.specs.Delta2.{delta2_entry, delta2_table}
use Rattle.suffix_tables.specs.Passes.{Again, Behind, Held, Settled}
use Rattle.suffix_tables.proofs.Suffixes.{Next, suffix-reads}
use Rattle.suffix_tables.proofs.Again.{again-trans, again-nested, again-less, again-letter, again-more, entry-behind, entry_whole}

-- ---- the lent table

pub held_start : {P table : List ℕ} → length P ≤ length table → Held P table table
held_start h = record { room = h; long = refl; kept = refl }

pub held-set : {P table₀ table : List ℕ} (q v : ℕ) → q < length P → Held P table₀ table → Held P table₀ (set table q v)
held-set {P} {table₀} {table} q v h d =
    record { room = omega (arith, d.room, length-set table q v); long = length-set table q v ∙ d.long; kept = drop-set-lt (length P) table q v h ∙ d.kept }

-- a second turn begins with the table as the first left it, and both together
pub settled-anew : {P table₀ table : List ℕ} {n r : ℕ} → Settled P n r table₀ table → Settled P n r table table
settled-anew d = record { held = held_start d.held.room; entry = d.entry }

pub settled-since : {P table₀ table₁ table : List ℕ} {n r : ℕ} → Held P table₀ table₁ → Settled P n r table₁ table → Settled P n r table₀ table
settled-since h d = record { held = record { room = d.held.room; long = d.held.long ∙ h.long; kept = d.held.kept ∙ h.kept }; entry = d.entry }

-- all entries are settled: no place is from m on
pub settled_is : {P table₀ table : List ℕ} → Settled P (length P) (length P) table₀ table → table ≡ delta2_table P ++ drop (length P) table₀
settled_is {P} d =
    ruled-is {rule = λ q. delta2_entry P (suc q)}
    (record { entry = λ q h. d.entry q h (λ s l b. omega (arith, b.before)); kept = d.held.kept; room = d.held.room; long = d.held.long })

-- ---- by the borders of the whole pattern

-- k is the next place from q on whose letters stand at P's front
pub record Front (P : List ℕ) (q k : ℕ) : Type 0 where
  pub from : q ≤ k
  pub most : k ≤ length P
  pub again : Again P k 0
  pub first : (c : ℕ) → q ≤ c → c < k → Again P c 0 → ⊥

-- past q: k itself, or the next place after it
pub front-keep : {P : List ℕ} {q k : ℕ} → q < k → Front P q k → Front P (suc q) k
front-keep h f = record { from = h; most = f.most; again = f.again; first = λ c a b. f.first c (omega arith) b }

pub front-on : {P : List ℕ} {q k u : ℕ} → q < length P → k ≤ q → Front P q k → Next P k u → Front P (suc q) u
front-on h l f n =
    let a = f.from in
    record {
      from = omega (arith, n.later);
      most = n.inside (omega arith);
      again = again-trans (omega (arith, n.later)) (n.again (n.inside (omega arith))) f.again;
      first = λ c b d g. n.first c (omega arith) d (again-nested (omega arith) f.again g);
    }

-- as the loop reads it
pub front-next : (P : List ℕ) (q k k' : ℕ) {borders : List ℕ} → q < length P → Entries 0 (length P + 1) (suffix_entry P) borders → (k ≤ q → k' ≡ get_or borders k 0) → (q < k → k' ≡ k) → Front P q k → Front P (suc q) k'
front-next P q k k' h b moved stays f =
    ⊎_elim (λ l. rw (stays l) (front-keep l f)) (λ l. rw (moved l) (front-on h l f (suffix-reads P k b f.most))) (cases_lt q k)

-- the entry
pub front-settled : {P table₀ table : List ℕ} {q k : ℕ} (v : ℕ) → q < length P → Front P (suc q) k → v ≡ k + length P - 1 - q → Settled P q 0 table₀ table → Settled P (suc q) 0 table₀ (set table q v)
front-settled {P} {table₀} {table} {q} {k} v h f e d =
    record {
      held = held-set q v h d.held;
      entry = λ c l none.
          by-test (λ _. get_or (set table q v) c 0 ≡ delta2_entry P (suc c)) (eqb c q)
          (λ x.
          rw (eqb-true c q x)
          (get_or-set_same table q v 0 (omega (arith, d.held.room)) ∙ e
          ∙ sym (entry_whole P q k h f.from f.again f.first (λ s b. none s (omega arith) (rw (eqb-true c q x) b)) ∙ omega arith)))
          (λ x. get_or-set_other table q c v 0 (eqb-false c q x) ∙ d.entry c (omega (arith, eqb-false c q x)) none);
    }

-- ---- place after place

-- from r + 1 on they stand again at the latest where they do from r on
pub next-step : {P : List ℕ} {r e t : ℕ} → r < length P → Next P r e → Next P (suc r) t → t ≤ suc e
next-step {P} {r} {e} {t} h n m =
    by-test (λ _. t ≤ suc e) (ltb (suc e) t)
    (λ x. absurd (m.first (suc e) (omega (arith, n.later)) (ltb-true (suc e) t x) (again-less (n.again (n.inside h)))))
    (λ x. ltb-false (suc e) t x)

-- at place r the entries before t are done: the letters from t on stand again after r
pub record Walk (P : List ℕ) (r t : ℕ) (table₀ table : List ℕ) : Type 0 where
  pub held : Held P table₀ table
  pub later : suc r < t
  pub again : t ≤ length P → Again P t (suc r)
  pub done : (q : ℕ) → q < length P → suc q < t → ((s : ℕ) → suc r ≤ s → Behind P q s → ⊥) → get_or table q 0 ≡ delta2_entry P (suc q)
  pub rest : (q : ℕ) → q < length P → t ≤ suc q → ((s : ℕ) → r ≤ s → Behind P q s → ⊥) → get_or table q 0 ≡ delta2_entry P (suc q)

-- after no place from r on, if after none from r + 1 on and not after r
none_from : {P : List ℕ} {q r : ℕ} → ((s : ℕ) → suc r ≤ s → Behind P q s → ⊥) → (Behind P q r → ⊥) → (s : ℕ) → r ≤ s → Behind P q s → ⊥
none_from {P} {q} {r} none here s h b = by-test (λ _. ⊥) (eqb s r) (λ e. here (rw (eqb-true s r e) at b)) (λ e. none s (omega (arith, eqb-false s r e)) b)

-- up to the next place e whose letters stand again from r on, they stand again after r behind another letter
walk-behind : {P : List ℕ} {q r e : ℕ} → q < e → Next P r e → r < q → Again P (suc q) (suc r) → Behind P q r
walk-behind {P} {q} h n l a = record { before = l; again = a; differs = λ x. n.first q l h (again-more a x) }

module _ {P table₀ table : List ℕ} {r : ℕ} where
  pub walk_start : {t : ℕ} → Next P (suc r) t → Settled P (length P) r table₀ table → Walk P r t table₀ table
  walk_start n d =
      record {
        held = d.held;
        later = n.later;
        again = n.again;
        done = λ q h l none. d.entry q h (none_from none (λ b. n.first (suc q) (omega (arith, b.before)) l b.again));
        rest = λ q h l none. d.entry q h none;
      }

  pub walk-on : {e u : ℕ} (q v : ℕ) → suc q ≤ length P → suc q ≤ e → Next P r e → Next P (suc q) u → v ≡ length P - 1 - r → Walk P r (suc q) table₀ table → Walk P r u table₀ (set table q v)
  walk-on {e} {u} q v h l n m i w =
      let low : suc r < suc q = w.later in
      record {
        held = held-set q v h w.held;
        later = omega (arith, m.later);
        again = λ k. again-trans (omega (arith, m.later)) (m.again k) (w.again h);
        done = λ c a b none.
            by-test (λ _. get_or (set table q v) c 0 ≡ delta2_entry P (suc c)) (eqb c q)
            (λ x.
            let x' : c ≡ q = eqb-true c q x in
            rw x'
            (get_or-set_same table q v 0 (omega (arith, w.held.room)) ∙ i
            ∙ sym (entry-behind P q r h (walk-behind (omega arith) n (omega arith) (w.again h)) (λ s y z. none s y (rw x' z)) ∙ omega arith)))
            (λ x.
            get_or-set_other table q c v 0 (eqb-false c q x)
            ∙ by-test (λ _. get_or table c 0 ≡ delta2_entry P (suc c)) (ltb c q)
            (λ y. w.done c a (omega (arith, ltb-true c q y)) none)
            (λ y.
            let over : q < c = omega (arith, eqb-false c q x, ltb-false c q y) in
            w.rest c a (omega arith) (none_from none (λ z. m.first (suc c) (omega arith) b (again-nested (omega arith) (w.again h) z.again)))));
        rest = λ c a b none. get_or-set_other table q c v 0 (λ x. omega (arith, m.later)) ∙ w.rest c a (omega (arith, m.later)) none;
      }

  -- with the place as code has it
  pub walk-next : (e t u v : ℕ) → t ≤ length P → t ≤ e → Next P r e → Next P t u → v ≡ length P - 1 - r → Walk P r t table₀ table → Walk P r u table₀ (set table (t - 1) v)
  walk-next e t u v h l n m i w = let z : suc (t - 1) ≡ t = omega (arith, w.later) in walk-on (t - 1) v (omega arith) (omega arith) n (rw z m) i (rw z w)

  -- past the next place e where they stand again with letter r before them: any other entry that r gives, a later place gives too
  pub walk_ends : {t e : ℕ} → Next P r e → e < t → r < length P → Walk P r t table₀ table → Settled P (length P) (suc r) table₀ table
  walk_ends {t} {e} n l h w =
      record {
        held = w.held;
        entry = λ q a none.
            by-test (λ _. get_or table q 0 ≡ delta2_entry P (suc q)) (ltb (suc q) t)
            (λ x. w.done q a (ltb-true (suc q) t x) none)
            (λ x.
            let low : t ≤ suc q = ltb-false (suc q) t x in
            w.rest q a low
            (none_from none
            (λ b.
            let here : Again P e r = n.again (n.inside h) in
            let letter : get_or P r 0 ≡ get_or P e 0 = again-letter (omega arith) here in
            by-test (λ _. ⊥) (eqb q e)
            (λ y. b.differs (letter ∙ at_same P (sym (eqb-true q e y))))
            (λ y.
            none e n.later
            (record {
              before = omega (arith, eqb-false q e y);
              again = again-nested (omega arith) (again-less here) b.again;
              differs = λ z. b.differs (letter ∙ z);
            })))));
      }
