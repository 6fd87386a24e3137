-- The numbers at the letters of a text: a walk by the states' steps gives them, one a letter, and they give exactly the occurrences of each phrase. Assumes nothing.
use mathlib.Core.Path.{◌≡◌, refl, sym, ap, ap₂, ◌∙◌}
use Prim.Native.Nat.{ℕ, suc, ◌-◌, ◌≤◌, ◌<◌}
use native.Mathlib.Omega.{arith}
use mathlib.Core.Bool.{Bool, true, false, cond}
use mathlib.Core.List.{List, [], ◌∷◌, ◌++◌, append_assoc, append-nil}
use lib.ListN.{length, get_or, drop, length-drop, length-append, get_or-append}
use lib.Seq.{take_all, append_snoc}
use lib.Dec.{ltb}
use borrow.Author.Tests.{ltb-true, ltb-false}
use Rattle.matching.specs.Occurrences.{occurs_at, occurs_from, occurrences}
use Rattle.matching.proofs.CaseAnalysis.{by-test}
use Rattle.matching.proofs.Occurrences.{Stands, rest, rest-step, rest-past, occurrences-none}
use Rattle.matching.proofs.Ranges.{moved_none, rest-split, occurrences-rest, part-occurrences}
use Rattle.phrases.specs.Phrases.{ends_with, ended, endings, is_set, risen, Step, numbers}
use Rattle.phrases.specs.States.{state, step}
use Rattle.phrases.proofs.States.{state-on, ended-state, ends-long, bits_at}

-- ---- the walk by the states' steps

-- after t was read, the numbers of the walk are those at the letters that follow
pub steps-endings : (ps : List (List ℕ)) (t cs : List ℕ) → numbers (step ps) (state ps t) cs ≡ endings ps t cs
unfolding numbers endings
steps-endings ps t [] = refl
steps-endings ps t (c ∷ cs) =
    ap (λ s. ended ps s ∷ numbers (step ps) s cs) (sym (state-on ps t c)) ∙ ap₂ (λ e es. e ∷ es) (ended-state ps (t ++ (c ∷ []))) (steps-endings ps (t ++ (c ∷ [])) cs)

-- there is one number a letter, in any walk
pub numbers-length : {S : Type 0} (step : S → ℕ → Step S) (s : S) (cs : List ℕ) → length (numbers step s cs) ≡ length cs
unfolding numbers
numbers-length step s [] = refl
numbers-length step s (c ∷ cs) = ap suc (numbers-length step (step s c).state cs)

pub endings-length : (ps : List (List ℕ)) (t cs : List ℕ) → length (endings ps t cs) ≡ length cs
unfolding endings
endings-length ps t [] = refl
endings-length ps t (c ∷ cs) = ap suc (endings-length ps (t ++ (c ∷ [])) cs)

-- ---- the numbers give the occurrences

-- what t ends with stands at its end
occurs-end : (p t : List ℕ) → length p ≤ length t → occurs_at p t (length t - length p) ≡ ends_with t p
unfolding occurs_at ends_with
occurs-end p t h = rw (take_all (length p) (drop (length t - length p) t) (omega (arith, length-drop (length t - length p) t)))

-- one letter more brings one occurrence more, or none
occurrences-on : (p t : List ℕ) (c : ℕ) → 1 ≤ length p
    → occurrences p (t ++ (c ∷ [])) ≡ occurrences p t ++ cond (ends_with (t ++ (c ∷ [])) p) ((suc (length t) - length p) ∷ []) []
occurrences-on p t c h =
    let T : List ℕ = t ++ (c ∷ []) in
    let j : ℕ = suc (length t) - length p in
    let n : length T ≡ suc (length t) = length-append t (c ∷ []) ∙ omega arith in
    let part : Stands t T 0 = record { inside = omega arith; letters = λ i l. sym (get_or-append t (c ∷ []) 0 i l) ∙ ap (λ x. get_or T x 0) (omega arith) } in
    let front : occurs_from j p T 0 ≡ occurrences p t = sym (part-occurrences p T t 0 h part) ∙ moved_none (occurrences p t) in
    let last : rest p T j ≡ cond (ends_with T p) (j ∷ []) [] =
    by-test (λ _. rest p T j ≡ cond (ends_with T p) (j ∷ []) []) (ltb (length T) (length p))
    (λ e.
    let l : length T < length p = ltb-true (length T) (length p) e in
    rw (ends-long p T l) (rest-past p T j h (omega arith)))
    (λ e.
    let l : length p ≤ length T = ltb-false (length T) (length p) e in
    let j' : j ≡ length T - length p = omega arith in
    let at : occurs_at p T j ≡ ends_with T p = ap (occurs_at p T) j' ∙ occurs-end p T l in
    let none : rest p T (suc j) ≡ [] = rest-past p T (suc j) h (omega arith) in
    rest-step p T j (omega arith) ∙ ap₂ (λ b r. cond b (j ∷ r) r) at none) in
    occurrences-rest p T ∙ rest-split p T 0 j (omega arith) ∙ ap₂ (λ a b. a ++ b) front (ap (rest p T) (omega arith) ∙ last)

-- after t was read, the letters that follow bring the places that their numbers give
risen-on : (ps : List (List ℕ)) (k : ℕ) → k < length ps → 1 ≤ length (get_or ps k []) → (t cs : List ℕ)
    → occurrences (get_or ps k []) (t ++ cs) ≡ occurrences (get_or ps k []) t ++ risen k (length (get_or ps k [])) (length t) (endings ps t cs)
unfolding endings risen
risen-on ps k h some t [] = rw (append-nil t, append-nil (occurrences (get_or ps k []) t))
risen-on ps k h some t (c ∷ cs) =
    let p : List ℕ = get_or ps k [] in
    let m : ℕ = length p in
    let T : List ℕ = t ++ (c ∷ []) in
    let n : length T ≡ suc (length t) = length-append t (c ∷ []) ∙ omega arith in
    let is : is_set (ended ps T) k ≡ ends_with T p = bits_at (ends_with T) ps k h in
    let more : List ℕ = risen k m (suc (length t)) (endings ps T cs) in
    ap (occurrences p) (sym (append_snoc t c cs))
    ∙ risen-on ps k h some T cs
    ∙ ap₂ (λ l i. l ++ risen k m i (endings ps T cs)) (occurrences-on p t c some) n
    ∙ append_assoc (occurrences p t) (cond (ends_with T p) ((suc (length t) - m) ∷ []) []) more
    ∙ ap (λ l. occurrences p t ++ l) (joined (ends_with T p) (suc (length t) - m) more ∙ ap (λ b. cond b ((suc (length t) - m) ∷ more) more) (sym is))
  where
    joined : (b : Bool) (x : ℕ) (l : List ℕ) → cond b (x ∷ []) [] ++ l ≡ cond b (x ∷ l) l
    joined true x l = refl
    joined false x l = refl

-- the occurrences of phrase k are the places at which its bit is set
pub risen-occurrences : (ps : List (List ℕ)) (k : ℕ) → k < length ps → 1 ≤ length (get_or ps k []) → (T : List ℕ)
    → occurrences (get_or ps k []) T ≡ risen k (length (get_or ps k [])) 0 (endings ps [] T)
risen-occurrences ps k h some T =
    risen-on ps k h some [] T ∙ ap (λ l. l ++ risen k (length (get_or ps k [])) 0 (endings ps [] T)) (occurrences-none (get_or ps k []) [] (omega arith))
