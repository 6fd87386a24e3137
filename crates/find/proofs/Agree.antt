-- All methods give one list: any two finds that are not refused give the same total, and leave the same list in equal lists, whatever their methods and scratches (demand 2).
-- And a phrase longer than the text gives total 0 and comparisons 0 by every method, with the tables filled all the same.
-- Shown over `Found`, so both hold of any engine, also of those that come later. Assumes nothing.
use mathlib.Core.Path.{◌≡◌, sym, ap, ◌∙◌}
use Prim.Native.Nat.{ℕ, ◌<◌}
use native.Mathlib.Omega.{arith}
use mathlib.Core.List.{List}
use lib.ListN.{length}
use lib.Dec.{leb}
use borrow.Author.Tests.{leb-true, leb-false}
use Rattle.matching.specs.declared.Finding.{Finding}
use Rattle.matching.specs.Find.{Engine, Found, Longer, Same}
use Rattle.matching.proofs.CaseAnalysis.{by-test}
use Rattle.matching.proofs.Find.{found-answer, found-listed, found_none, found-longer}
use Rattle.find.specs.Find.{engine_of, Answered}

pub engines-agree : {e₁ e₂ : Engine} {P T scratch₁ scratch₂ list : List ℕ} {r₁ r₂ : Finding} {scratch₁' scratch₂' list₁' list₂' : List ℕ} → Found e₁ P T scratch₁ list r₁ scratch₁' list₁'
    → Found e₂ P T scratch₂ list r₂ scratch₂' list₂' → r₁.refusal ≡ 0 → r₂.refusal ≡ 0 → Same r₁ r₂ list₁' list₂'
engines-agree f g n k =
    record {
      total = ap (λ (r : Finding). r.total) (found-answer f (found_none f n)) ∙ sym (ap (λ (r : Finding). r.total) (found-answer g (found_none g k)));
      list = found-listed f (found_none f n) ∙ sym (found-listed g (found_none g k));
    }

-- a find by a method number that returns no refusal is a find by its engine
pub accepted-found : {method : ℕ} {P T scratch list : List ℕ} {r : Finding} {scratch' list' : List ℕ} → Answered method P T scratch list r scratch' list' → r.refusal ≡ 0
    → Found (engine_of method) P T scratch list r scratch' list'
accepted-found {method} {P} {T} {scratch} {list} {r} {scratch'} {list'} a z =
    by-test (λ _. Found (engine_of method) P T scratch list r scratch' list') (leb method 7)
    (λ t. a.found (leb-true method 7 t))
    (λ t. absurd (omega (arith, ap (λ (x : Finding). x.refusal) (a.refused (leb-false method 7 t)).0)))

pub methods-agree : {method₁ method₂ : ℕ} {P T scratch₁ scratch₂ list : List ℕ} {r₁ r₂ : Finding} {scratch₁' scratch₂' list₁' list₂' : List ℕ} → Answered method₁ P T scratch₁ list r₁ scratch₁' list₁'
    → Answered method₂ P T scratch₂ list r₂ scratch₂' list₂' → r₁.refusal ≡ 0 → r₂.refusal ≡ 0 → Same r₁ r₂ list₁' list₂'
methods-agree a b n o = engines-agree (accepted-found a n) (accepted-found b o) n o

pub method-longer : {method : ℕ} {P T scratch list : List ℕ} {r : Finding} {scratch' list' : List ℕ} → Answered method P T scratch list r scratch' list' → r.refusal ≡ 0 → length T < length P
    → Longer (engine_of method) P scratch list r scratch' list'
method-longer a z longer = found-longer (accepted-found a z) z longer
