-- What a call gives and leaves, by its refusal, and back. Assumes nothing.
use mathlib.Core.Path.{◌≡◌, sym, ap, ◌∙◌}
use Prim.Native.Nat.{ℕ}
use mathlib.Core.Bool.{true}
use mathlib.Core.List.{List}
use lib.ListN.{length}
use lib.Dec.{eqb}
use borrow.Author.Tests.{eqb-true, eq-eqb}
use Rattle.matching.specs.declared.Answer.{Answer}
use Rattle.matching.specs.Received.{received}
use Rattle.matching.proofs.CaseAnalysis.{by-test}
use Rattle.cuts.specs.Cuts.{Cut, relist_refusal}
use Rattle.late_cuts.specs.LateCuts.{relisted, Relisted}

module _ (P T list : List ℕ) (c : Cut) where
  -- what a call gives and leaves that is not refused
  pub relisted-taken : (lent : List ℕ) {number total : ℕ} {lent' : List ℕ} → number ≡ relist_refusal P T list c → number ≡ 0 → total ≡ length (relisted P T list c) → lent' ≡ received lent (relisted P T list c)
      → Relisted P T list c lent (record { refusal = 0; number = total }) lent'
  relisted-taken lent met none counted is =
      let on : eqb (relist_refusal P T list c) 0 ≡ true = eq-eqb (relist_refusal P T list c) 0 (sym met ∙ none) in
      record { answer = rw (on, counted); listed = rw on is }

-- and back
module _ {P T list : List ℕ} {c : Cut} {lent : List ℕ} {r : Answer} {lent' : List ℕ} (made : Relisted P T list c lent r lent') where
  -- a call that returns no refusal met none
  pub relisted-none : r.refusal ≡ 0 → relist_refusal P T list c ≡ 0
  relisted-none z =
      by-test (λ _. relist_refusal P T list c ≡ 0) (eqb (relist_refusal P T list c) 0)
      (λ t. eqb-true (relist_refusal P T list c) 0 t)
      (λ t. let off : r ≡ record { refusal = relist_refusal P T list c; number = 0 } = made.answer ∙ rw t in sym (ap (λ (x : Answer). x.refusal) off) ∙ z)

  module _ (none : relist_refusal P T list c ≡ 0) where
    on : eqb (relist_refusal P T list c) 0 ≡ true
    on = eq-eqb (relist_refusal P T list c) 0 none

    pub relisted-answer : r ≡ record { refusal = 0; number = length (relisted P T list c) }
    relisted-answer = made.answer ∙ rw on

    pub relisted-listed : lent' ≡ received lent (relisted P T list c)
    relisted-listed = made.listed ∙ rw on
