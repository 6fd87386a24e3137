-- Laws of folding, on each page: folding twice changes nothing, it makes no byte below 32 and loses none, a byte folds to a byte, and folding two joined texts is joining the folded ones. Assumes nothing.
use mathlib.Core.Path.{◌≡◌, refl, sym, ap, subst, ◌∙◌}
use mathlib.Core.Logic.{◌⊎◌, inl, inr, ⊎_elim}
use Prim.Native.Nat.{ℕ, ◌+◌, ◌-◌, ◌≤◌, ◌<◌}
use native.Mathlib.Omega.{arith}
use mathlib.Core.Bool.{Bool, true, false, cond, not, ◌&&◌, false≢true}
use mathlib.Core.List.{List, [], ◌∷◌, ◌++◌, map, map-append}
use lib.ListN.{length, take, length-map}
use lib.Dec.{eqb, leb}
use Rattle.std.proofs.lemmas.Bool.{cases_lt}
use borrow.Author.Tests.{le-leb, lt-leb, leb-true, eq-eqb, ne_eqb, eqb-true, eqb-false, not-true}
use Rattle.matching.specs.Received.{received}
use Rattle.matching.proofs.CaseAnalysis.{by-test, both, either}
use Rattle.matching.proofs.Received.{received-whole}
use Rattle.fold.specs.declared.Folding.{Folding}
use Rattle.fold.specs.Fold.{capital, folded, pairs15, paired, folded15, is_page, fold_on, LettersFolded}

-- ---- page 1

-- where a capital lies: in one range or in the other
ranges : (c : ℕ) → capital c ≡ true → ((65 ≤ c) × (c ≤ 90)) ⊎ ((192 ≤ c) × (c ≤ 222))
unfolding capital
ranges c e =
    by-test (λ t. (leb 65 c && leb c 90 ≡ t) → ((65 ≤ c) × (c ≤ 90)) ⊎ ((192 ≤ c) × (c ≤ 222))) (leb 65 c && leb c 90)
    (λ _ f. let p = both (leb 65 c) (leb c 90) f in inl (leb-true 65 c p.0, leb-true c 90 p.1))
    (λ _ f.
    let r = either (leb 65 c && leb c 90) (leb 192 c && leb c 222 && not (eqb c 215)) e f in
    let p = both (leb 192 c) (leb c 222) (both (leb 192 c && leb c 222) (not (eqb c 215)) r).0 in
    inr (leb-true 192 c p.0, leb-true c 222 p.1))
    refl

-- the letter between the ranges is no capital
not-between : (c : ℕ) → capital c ≡ true → c ≡ 215 → ⊥
unfolding capital
not-between c e z = false≢true (sym (ap capital z) ∙ e)

-- what a letter folds to, by where it lies
folded-low : (c : ℕ) → 65 ≤ c → c ≤ 90 → c + 32 ≡ folded c
unfolding folded capital
folded-low c l h = sym (rw (le-leb 65 c l, le-leb c 90 h) refl)

folded-high : (c : ℕ) → 192 ≤ c → c ≤ 222 → (c ≡ 215 → ⊥) → c + 32 ≡ folded c
unfolding folded capital
folded-high c l h n = sym (rw (lt-leb c 90 (omega arith), le-leb 65 c (omega arith), le-leb 192 c l, le-leb c 222 h, ne_eqb c 215 n) refl)

pub folded-capital : (c : ℕ) → 65 ≤ c → (90 < c → 192 ≤ c) → c ≤ 222 → (c ≡ 215 → ⊥) → c + 32 ≡ folded c
folded-capital c l m h n = ⊎_elim (λ r. folded-high c (m r) h n) (λ r. folded-low c l r) (cases_lt 90 c)

pub folded-other : (c : ℕ) → (65 ≤ c → c ≤ 90 → ⊥) → (192 ≤ c → c ≤ 222 → (c ≡ 215 → ⊥) → ⊥) → c ≡ folded c
unfolding folded
folded-other c low high =
    by-test (λ t. (capital c ≡ t) → c ≡ cond t (c + 32) c) (capital c)
    (λ _ e. absurd (⊎_elim (λ r. low r.0 r.1) (λ r. high r.0 r.1 (not-between c e)) (ranges c e)))
    (λ _ _. refl)
    refl

-- 32 more than a capital is a letter still, and one that stays
pub capital-below : (c : ℕ) → capital c ≡ true → c ≤ 222
capital-below c e = ⊎_elim (λ r. omega (arith, r.1)) (λ r. r.1) (ranges c e)

small : (c : ℕ) → capital c ≡ true → capital (c + 32) ≡ false
unfolding capital
small c e =
    ⊎_elim
    (λ r. rw (le-leb 65 (c + 32) (omega arith), lt-leb (c + 32) 90 (omega arith), lt-leb 192 (c + 32) (omega arith)))
    (λ r. rw (le-leb 65 (c + 32) (omega arith), lt-leb (c + 32) 90 (omega arith), le-leb 192 (c + 32) (omega arith), lt-leb (c + 32) 222 (omega arith)))
    (ranges c e)

folded-twice : (c : ℕ) → folded (folded c) ≡ folded c
unfolding folded
folded-twice c =
    by-test (λ t. (capital c ≡ t) → cond (capital (cond t (c + 32) c)) (cond t (c + 32) c + 32) (cond t (c + 32) c) ≡ cond t (c + 32) c) (capital c)
    (λ _ e. rw (small c e))
    (λ _ e. rw e)
    refl

-- a byte folds to a byte
pub folded-byte : (c : ℕ) → c < 256 → folded c < 256
unfolding folded
folded-byte c h = by-test (λ t. (capital c ≡ t) → cond t (c + 32) c < 256) (capital c) (λ _ e. omega (arith, capital-below c e)) (λ _ e. h) refl

-- a byte below 32 is made of itself alone
folded-control : (d : ℕ) → d ≤ 31 → (c : ℕ) → eqb (folded c) d ≡ eqb c d
unfolding folded
folded-control d low c =
    by-test (λ t. (capital c ≡ t) → eqb (cond t (c + 32) c) d ≡ eqb c d) (capital c)
    (λ _ e. ne_eqb (c + 32) d (λ z. omega arith) ∙ sym (ne_eqb c d (λ z. ⊎_elim {C = ⊥} (λ r. omega (arith, r.0)) (λ r. omega (arith, r.0)) (ranges c e))))
    (λ _ e. refl)
    refl

-- ---- page 15

-- what holds of every pair
unfoldable EachPair : (ℕ → ℕ → Type 0) → List (ℕ × ℕ) → Type 0
EachPair Q [] = Unit {0}
EachPair Q (p ∷ ps) = Q p.0 p.1 × EachPair Q ps

-- a letter is the first of no pair
unfoldable FirstOfNone : ℕ → List (ℕ × ℕ) → Type 0
FirstOfNone c [] = Unit {0}
FirstOfNone c (p ∷ ps) = (c ≡ p.0 → ⊥) × FirstOfNone c ps

-- what holds of every pair, and of the other letters and what they fold to, holds of each letter and what it folds to
by-pairs : (Q : ℕ → ℕ → Type 0) (ps : List (ℕ × ℕ)) (f : ℕ → ℕ) (c : ℕ) → EachPair Q ps → (FirstOfNone c ps → Q c (f c)) → Q c (paired ps f c)
unfolding EachPair FirstOfNone paired
by-pairs Q [] f c each other = other tt
by-pairs Q (p ∷ ps) f c each other =
    by-test (λ t. (eqb c p.0 ≡ t) → Q c (cond t p.1 (paired ps f c))) (eqb c p.0)
    (λ _ e. subst (λ (x : ℕ). Q x p.1) (sym (eqb-true c p.0 e)) each.0)
    (λ _ e. by-pairs Q ps f c each.1 (λ none. other (eqb-false c p.0 e, none)))
    refl

-- a letter that is the first of no pair folds by the other fold
other-paired : (ps : List (ℕ × ℕ)) (f : ℕ → ℕ) (c : ℕ) → FirstOfNone c ps → paired ps f c ≡ f c
unfolding FirstOfNone paired
other-paired [] f c none = refl
other-paired (p ∷ ps) f c none = rw (ne_eqb c p.0 none.0) (other-paired ps f c none.1)

-- every other letter folds as on page 1
others-folded : (c : ℕ) → FirstOfNone c pairs15 → folded15 c ≡ folded c
unfolding folded15
others-folded c none = other-paired pairs15 folded c none

-- a letter that page 1 makes of no capital is made of itself alone
not_made : (c d : ℕ) → capital (d - 32) ≡ false → (c ≡ d → ⊥) → folded c ≡ d → ⊥
unfolding folded
not_made c d other apart =
    by-test (λ t. (capital c ≡ t) → cond t (c + 32) c ≡ d → ⊥) (capital c)
    (λ _ e z. let is : d - 32 ≡ c = omega arith in false≢true (sym other ∙ ap capital is ∙ e))
    (λ _ e z. apart z)
    refl

-- the first letters of pairs are such; a test that computes
unfoldable none_made : List (ℕ × ℕ) → Bool
unfolding capital
none_made [] = true
none_made (p ∷ ps) = not (capital (p.0 - 32)) && none_made ps

still-none : (ps : List (ℕ × ℕ)) → none_made ps ≡ true → (c : ℕ) → FirstOfNone c ps → FirstOfNone (folded c) ps
unfolding FirstOfNone none_made
still-none [] w c none = tt
still-none (p ∷ ps) w c none =
    let w' = both (not (capital (p.0 - 32))) (none_made ps) w in
    (not_made c p.0 (not-true (capital (p.0 - 32)) w'.0) none.0, still-none ps w'.1 c none.1)

-- folding a second time changes nothing
folded15-twice : (c : ℕ) → folded15 (folded15 c) ≡ folded15 c
unfolding EachPair none_made folded15
folded15-twice c =
    by-pairs (λ c x. folded15 x ≡ x) pairs15 folded c (refl, (refl, (refl, (refl, tt)))) (λ none. others-folded (folded c) (still-none pairs15 refl c none) ∙ folded-twice c)

-- no pair has a byte below 32; a test that computes
unfoldable no_control : List (ℕ × ℕ) → Bool
no_control [] = true
no_control (p ∷ ps) = leb 32 p.0 && leb 32 p.1 && no_control ps

pairs-control : (d : ℕ) → d ≤ 31 → (ps : List (ℕ × ℕ)) → no_control ps ≡ true → EachPair (λ c x. eqb x d ≡ eqb c d) ps
unfolding EachPair no_control
pairs-control d low [] w = tt
pairs-control d low (p ∷ ps) w =
    let w' = both (leb 32 p.0 && leb 32 p.1) (no_control ps) w in
    let here = both (leb 32 p.0) (leb 32 p.1) w'.0 in
    let first = leb-true 32 p.0 here.0 in
    let second = leb-true 32 p.1 here.1 in
    (ne_eqb p.1 d (λ z. omega arith) ∙ sym (ne_eqb p.0 d (λ z. omega arith)), pairs-control d low ps w'.1)

folded15-control : (d : ℕ) → d ≤ 31 → (c : ℕ) → eqb (folded15 c) d ≡ eqb c d
unfolding no_control folded15
folded15-control d low c = by-pairs (λ c x. eqb x d ≡ eqb c d) pairs15 folded c (pairs-control d low pairs15 refl) (λ none. folded-control d low c)

-- a byte folds to a byte
folded15-byte : (c : ℕ) → c < 256 → folded15 c < 256
unfolding EachPair folded15
folded15-byte c h = by-pairs (λ c x. c < 256 → x < 256) pairs15 folded c ((λ _. omega arith), ((λ _. omega arith), ((λ _. omega arith), ((λ _. omega arith), tt)))) (λ none b. folded-byte c b) h

-- ---- a page by its number

pub on-15 : {page : ℕ} → page ≡ 15 → fold_on page ≡ folded15
unfolding fold_on
on-15 {page} e = rw (eq-eqb page 15 e) refl

pub not-on-15 : {page : ℕ} → (page ≡ 15 → ⊥) → fold_on page ≡ folded
unfolding fold_on
not-on-15 {page} e = rw (ne_eqb page 15 e) refl

-- folding a second time changes nothing
pub page-twice : (page c : ℕ) → fold_on page (fold_on page c) ≡ fold_on page c
unfolding fold_on
page-twice page c = by-test (λ t. cond t folded15 folded (cond t folded15 folded c) ≡ cond t folded15 folded c) (eqb page 15) (λ _. folded15-twice c) (λ _. folded-twice c)

-- it makes no byte below 32 and loses none, so line ends stay where they stand
pub page-control : (page d : ℕ) → d ≤ 31 → (c : ℕ) → eqb (fold_on page c) d ≡ eqb c d
unfolding fold_on
page-control page d low c = by-test (λ t. eqb (cond t folded15 folded c) d ≡ eqb c d) (eqb page 15) (λ _. folded15-control d low c) (λ _. folded-control d low c)

-- a byte folds to a byte
pub page-byte : (page c : ℕ) → c < 256 → fold_on page c < 256
unfolding fold_on
page-byte page c h = by-test (λ t. cond t folded15 folded c < 256) (eqb page 15) (λ _. folded15-byte c h) (λ _. folded-byte c h)

-- ---- acts joined (document 02, (ix)), on each page

-- of the definition
pub text-joined : (page : ℕ) (first second : List ℕ) → map (fold_on page) (first ++ second) ≡ map (fold_on page) first ++ map (fold_on page) second
text-joined page first second = map-append (fold_on page) first second

-- what `letters` leaves, on a page that there is
pub letters-made : {page : ℕ} {source target target' : List ℕ} {r : Folding} → LettersFolded page source target r target' → is_page page ≡ true → target' ≡ received target (map (fold_on page) source)
letters-made f known = f.left ∙ rw known refl

-- and at the front of a target that is long enough
pub letters-left : {page : ℕ} {source target target' : List ℕ} {r : Folding} → LettersFolded page source target r target' → is_page page ≡ true → length source ≤ length target
    → take (length source) target' ≡ map (fold_on page) source
letters-left {page} {source} {target} f known h =
    let size : length (map (fold_on page) source) ≡ length source = length-map source (fold_on page) in
    ap (take (length source)) (letters-made f known)
    ∙ ap (λ (n : ℕ). take n (received target (map (fold_on page) source))) (sym size) ∙ received-whole target (map (fold_on page) source) (omega arith)

-- and of what three calls of `letters` leave, in targets that are long enough: that of the joined texts holds what those of the two hold, one after the other
pub letters-joined : {page : ℕ} {first second target₁ target₂ target target₁' target₂' target' : List ℕ} {r₁ r₂ r : Folding} → LettersFolded page first target₁ r₁ target₁'
    → LettersFolded page second target₂ r₂ target₂' → LettersFolded page (first ++ second) target r target' → is_page page ≡ true
    → length first ≤ length target₁ → length second ≤ length target₂ → length (first ++ second) ≤ length target
    → take (length (first ++ second)) target' ≡ take (length first) target₁' ++ take (length second) target₂'
letters-joined {page} {first} {second} f₁ f₂ f known room₁ room₂ room = rw (letters-left f known room, letters-left f₁ known room₁, letters-left f₂ known room₂) (text-joined page first second)
