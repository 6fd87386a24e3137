-- Method numbers and names: each name's engine is that of its number, so a find by name keeps the promise by number. Assumes nothing.
use Rattle.std.proofs.Common.{◌≡◌, ℕ, ◌≤◌, List, refl, sym, ◌∙◌, ap, arith, subst}
use Rattle.matching.specs.declared.Finding.{Finding}
use Rattle.matching.specs.Find.{Engine, Found}
use Rattle.find.specs.declared.Method.{Method}
use Rattle.find.specs.declared.Method.TheVariants.{Naive, Kmp, Horspool, Sunday, Fjs, DoubleWindow, BoyerMoore, ImprovedFjs}
use Rattle.find.specs.Find.{engine_of, engine_by, method_number, Answered}

pub engine-named : (m : Method) → engine_of (method_number m) ≡ engine_by m
unfolding engine_of
engine-named Naive = refl
engine-named Kmp = refl
engine-named Horspool = refl
engine-named Sunday = refl
engine-named Fjs = refl
engine-named DoubleWindow = refl
engine-named BoyerMoore = refl
engine-named ImprovedFjs = refl

pub method-known : (m : Method) → method_number m ≤ 7
method-known Naive = omega arith
method-known Kmp = omega arith
method-known Horspool = omega arith
method-known Sunday = omega arith
method-known Fjs = omega arith
method-known DoubleWindow = omega arith
method-known BoyerMoore = omega arith
method-known ImprovedFjs = omega arith

pub answered-by : (m : Method) {method : ℕ} {P T scratch list : List ℕ} {r : Finding} {scratch' list' : List ℕ} → method_number m ≡ method → Found (engine_by m) P T scratch list r scratch' list'
    → Answered method P T scratch list r scratch' list'
answered-by m {method} {P} {T} {scratch} {list} {r} {scratch'} {list'} is f =
    let e : engine_by m ≡ engine_of method = sym (engine-named m) ∙ ap engine_of is in
    record {
      refused = λ h. absurd (omega (arith, method-known m));
      found = λ h. subst (λ (x : Engine). Found x P T scratch list r scratch' list') e f;
    }
