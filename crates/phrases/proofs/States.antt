-- The laws of the states over lists of letters, before any table: the next state from a state and one letter, fail links, and the phrases that end, all seen from the state alone. Assumes nothing.
use mathlib.Core.Path.{◌≡◌, refl, sym, ap, ap₂, ◌∙◌}
use Prim.Native.Nat.{ℕ, zero, suc, ◌+◌, ◌-◌, ◌*◌, ◌/◌, ◌%◌, ◌^◌, ◌≤◌, ◌<◌, max}
use native.Mathlib.Omega.{arith}
use mathlib.Core.Bool.{Bool, true, false, cond, ◌||◌, false≢true, true≢false, or-false, or-true}
use mathlib.Core.List.{List, [], ◌∷◌, ◌++◌}
use lib.ListN.{length, get_or, take, drop, length-drop, length-append}
use lib.Seq.{drop-nil, take-take, take-length, take-append_seam}
use lib.Dec.{ltb}
use borrow.Author.Tests.{ltb-true, ltb-false, eq-eqb, ne_eqb}
use native.Mathlib.Nat.{pow-suc}
use lib.Bits.{bit_or, or_step, or_zero_l}
use Rattle.matching.specs.Occurrences.{same}
use Rattle.matching.proofs.CaseAnalysis.{by-test}
use Rattle.matching.proofs.Occurrences.{same_true, eq-same}
use Rattle.phrases.proofs.Bits.{set-suc}
use Rattle.phrases.specs.Phrases.{ends_with, bit, bits, ended, is_set}
use Rattle.phrases.specs.States.{starts_with, known, state, next, fail, own}

-- ---- prefixes

-- a prefix of a prefix is a prefix
starts-front : (p s u : List ℕ) → starts_with p (s ++ u) ≡ true → starts_with p s ≡ true
unfolding starts_with
starts-front p s u e =
    let whole : take (length (s ++ u)) p ≡ s ++ u = same_true _ _ e in
    eq-same (sym (take-take (length s) (length (s ++ u)) p (omega (arith, length-append s u))) ∙ ap (take (length s)) whole ∙ take-append_seam s u)

pub known-front : (ps : List (List ℕ)) (s u : List ℕ) → known ps (s ++ u) ≡ true → known ps s ≡ true
unfolding known
known-front [] s u e = absurd (false≢true e)
known-front (p ∷ ps) s u e =
    by-test (λ t. starts_with p (s ++ u) ≡ t → t || known ps (s ++ u) ≡ true → starts_with p s || known ps s ≡ true) (starts_with p (s ++ u))
    (λ _ f _. rw (starts-front p s u f))
    (λ _ _ f. by-test (λ t. t || known ps s ≡ true) (starts_with p s) (λ _. refl) (λ _. known-front ps s u f))
    refl e

-- ---- the walk

-- the next state is found from the state, and the rest of what was read is not needed
pub state-on : (ps : List (List ℕ)) (t : List ℕ) (c : ℕ) → state ps (t ++ (c ∷ [])) ≡ next ps (state ps t) c
unfolding state
state-on ps [] c = refl
state-on ps (x ∷ t) c =
    by-test (λ b. known ps (x ∷ t) ≡ b → state ps ((x ∷ t) ++ (c ∷ [])) ≡ next ps (cond b (x ∷ t) (state ps t)) c) (known ps (x ∷ t))
    (λ _ _. refl)
    (λ _ e.
    by-test (λ b. cond b (x ∷ t ++ (c ∷ [])) (state ps (t ++ (c ∷ []))) ≡ next ps (state ps t) c) (known ps (x ∷ t ++ (c ∷ [])))
    (λ f. absurd (true≢false (sym (known-front ps (x ∷ t) (c ∷ []) f) ∙ e)))
    (λ _. state-on ps t c))
    refl

-- ---- the step: a child, or the step of the fail link; the root stays

pub state-known : (ps : List (List ℕ)) (s : List ℕ) → known ps s ≡ true → state ps s ≡ s
unfolding state
state-known ps [] e = refl
state-known ps (x ∷ s) e = rw e

pub next-fail : (ps : List (List ℕ)) (s : List ℕ) (c : ℕ) → 1 ≤ length s → known ps (s ++ (c ∷ [])) ≡ false → next ps s c ≡ next ps (fail ps s) c
unfolding state
next-fail ps [] c h e = absurd (omega arith)
next-fail ps (x ∷ s) c h e = rw e (state-on ps s c)

pub next-root : (ps : List (List ℕ)) (c : ℕ) → known ps (c ∷ []) ≡ false → next ps [] c ≡ []
unfolding state
next-root ps c e = rw e

-- ---- fail links: that of a child is a step from the fail link

pub fail-child : (ps : List (List ℕ)) (s : List ℕ) (c : ℕ) → 1 ≤ length s → fail ps (s ++ (c ∷ [])) ≡ next ps (fail ps s) c
fail-child ps [] c h = absurd (omega arith)
fail-child ps (x ∷ s) c h = state-on ps s c

pub fail-first : (ps : List (List ℕ)) (c : ℕ) → fail ps (c ∷ []) ≡ []
unfolding state
fail-first ps c = refl

-- a state is no longer than what was read, and is a prefix of a phrase
pub state-short : (ps : List (List ℕ)) (t : List ℕ) → length (state ps t) ≤ length t
unfolding state
state-short ps [] = omega arith
state-short ps (x ∷ t) = by-test (λ b. length (cond b (x ∷ t) (state ps t)) ≤ suc (length t)) (known ps (x ∷ t)) (λ _. omega arith) (λ _. omega (arith, state-short ps t))

pub state-front : (ps : List (List ℕ)) (t : List ℕ) → 1 ≤ length (state ps t) → known ps (state ps t) ≡ true
unfolding state
state-front ps [] h = absurd (omega arith)
state-front ps (x ∷ t) h =
    by-test (λ b. known ps (x ∷ t) ≡ b → 1 ≤ length (cond b (x ∷ t) (state ps t)) → known ps (cond b (x ∷ t) (state ps t)) ≡ true) (known ps (x ∷ t))
    (λ _ e _. e) (λ _ _ h. state-front ps t h) refl h

-- ---- the phrases that end

other_length : (s p : List ℕ) → (length s ≡ length p → ⊥) → same s p ≡ false
other_length s p h = by-test (λ b. b ≡ false) (same s p) (λ e. absurd (h (ap length (same_true s p e)))) (λ _. refl)

-- a list ends with p where it is p, or its tail ends with p
pub ends-tail : (x : ℕ) (t p : List ℕ) → ends_with (x ∷ t) p ≡ same (x ∷ t) p || ends_with t p
unfolding ends_with
ends-tail x t p =
    by-test (λ _. ends_with (x ∷ t) p ≡ same (x ∷ t) p || ends_with t p) (ltb (length t) (length p))
    (λ l.
    let l' : length t < length p = ltb-true (length t) (length p) l in
    let z : suc (length t) - length p ≡ 0 = omega arith in
    let y : length t - length p ≡ 0 = omega arith in
    rw (z, y, other_length t p (λ e. omega arith)) (sym (or-false (same (x ∷ t) p))))
    (λ l.
    let l' : length p ≤ length t = ltb-false (length t) (length p) l in
    let z : suc (length t) - length p ≡ suc (length t - length p) = omega arith in
    rw (z, other_length (x ∷ t) p (λ e. omega arith)))

-- whether a phrase ends is seen from the state alone
pub ends-state : (ps : List (List ℕ)) (t p : List ℕ) → known ps p ≡ true → ends_with (state ps t) p ≡ ends_with t p
unfolding state
ends-state ps [] p e = refl
ends-state ps (x ∷ t) p e =
    by-test (λ b. known ps (x ∷ t) ≡ b → ends_with (cond b (x ∷ t) (state ps t)) p ≡ ends_with (x ∷ t) p) (known ps (x ∷ t))
    (λ _ _. refl)
    (λ _ f.
    let differs : same (x ∷ t) p ≡ false = by-test (λ b. b ≡ false) (same (x ∷ t) p) (λ g. absurd (true≢false (sym e ∙ ap (known ps) (sym (same_true (x ∷ t) p g)) ∙ f))) (λ _. refl) in
    ends-state ps t p e ∙ sym (ends-tail x t p ∙ ap (λ b. b || ends_with t p) differs))
    refl

-- so the state is what it is said to be: t ends with it, and every end of t that is a prefix of a phrase is an end of the state
pub state-ends : (ps : List (List ℕ)) (t : List ℕ) → ends_with t (state ps t) ≡ true
unfolding state ends_with same
state-ends ps [] = refl
state-ends ps (x ∷ t) =
    by-test (λ b. ends_with (x ∷ t) (cond b (x ∷ t) (state ps t)) ≡ true) (known ps (x ∷ t))
    (λ _. ends-tail x t (x ∷ t) ∙ ap (λ b. b || ends_with t (x ∷ t)) (eq-same {xs = x ∷ t} {ys = x ∷ t} refl))
    (λ _. ends-tail x t (state ps t) ∙ ap (λ b. same (x ∷ t) (state ps t) || b) (state-ends ps t) ∙ or-true (same (x ∷ t) (state ps t)))

pub ends-long : (p t : List ℕ) → length t < length p → ends_with t p ≡ false
unfolding ends_with
ends-long p t h = other_length (drop (length t - length p) t) p (λ e. omega (arith, length-drop (length t - length p) t))

pub ends-short : (p t : List ℕ) → ends_with t p ≡ true → length p ≤ length t
ends-short p t e =
    by-test (λ _. length p ≤ length t) (ltb (length t) (length p)) (λ l. absurd (true≢false (sym e ∙ ends-long p t (ltb-true _ _ l)))) (λ l. ltb-false _ _ l)

pub state-longest : (ps : List (List ℕ)) (t p : List ℕ) → known ps p ≡ true → ends_with t p ≡ true → length p ≤ length (state ps t)
state-longest ps t p k e = ends-short p (state ps t) (ends-state ps t p k ∙ e)

-- and through the fail link: the state is the phrase, or the phrase ends at the fail link
pub ends-fail : (ps : List (List ℕ)) (s p : List ℕ) → 1 ≤ length p → known ps p ≡ true → ends_with s p ≡ same s p || ends_with (fail ps s) p
unfolding state ends_with
ends-fail ps [] p h e = rw (other_length [] p (λ d. omega arith))
ends-fail ps (x ∷ s) p h e = ends-tail x s p ∙ ap (λ b. same (x ∷ s) p || b) (sym (ends-state ps s p e))

-- ---- the phrases as bits

pub bits-same : (f g : List ℕ → Bool) (ps : List (List ℕ)) → ((k : ℕ) → k < length ps → f (get_or ps k []) ≡ g (get_or ps k [])) → bits f ps ≡ bits g ps
unfolding bits
bits-same f g [] e = refl
bits-same f g (p ∷ ps) e = ap₂ (λ b n. bit b + 2 * n) (e 0 (omega arith)) (bits-same f g ps (λ k h. e (suc k) (omega arith)))

-- halving drops the lowest bit
half : (b : Bool) (n : ℕ) → (bit b + 2 * n) / 2 ≡ n
half true n = omega arith
half false n = omega arith

bit-or : (a b : Bool) (m n : ℕ) → bit_or (bit a + 2 * m) (bit b + 2 * n) ≡ bit (a || b) + 2 * bit_or m n
bit-or a b m n =
    let x : (bit a + 2 * m) / 2 ≡ m = half a m in
    let y : (bit b + 2 * n) / 2 ≡ n = half b n in
    or_step (bit a + 2 * m) (bit b + 2 * n) ∙ rw (x, y) (lowest a b)
  where
    lowest : (a b : Bool) → bit_or m n * 2 + max ((bit a + 2 * m) % 2) ((bit b + 2 * n) % 2) ≡ bit (a || b) + 2 * bit_or m n
    lowest true true = omega arith
    lowest true false = omega arith
    lowest false true = omega arith
    lowest false false = omega arith

pub bits-or : (f g : List ℕ → Bool) (ps : List (List ℕ)) → bits (λ p. f p || g p) ps ≡ bit_or (bits f ps) (bits g ps)
unfolding bits
bits-or f g [] = sym (or_zero_l 0)
bits-or f g (p ∷ ps) = ap (λ n. bit (f p || g p) + 2 * n) (bits-or f g ps) ∙ sym (bit-or (f p) (g p) (bits f ps) (bits g ps))

-- bit k is phrase k's
pub bits_at : (f : List ℕ → Bool) (ps : List (List ℕ)) (k : ℕ) → k < length ps → is_set (bits f ps) k ≡ f (get_or ps k [])
unfolding bits
bits_at f [] k h = absurd (omega arith)
bits_at f (p ∷ ps) zero h = first (f p)
  where
    first : (b : Bool) → is_set (bit b + 2 * bits f ps) 0 ≡ b
    first true = eq-eqb ((1 + 2 * bits f ps) / 1 % 2) 1 (omega arith)
    first false = ne_eqb ((0 + 2 * bits f ps) / 1 % 2) 1 (λ (e : (0 + 2 * bits f ps) / 1 % 2 ≡ 1). omega arith)
bits_at f (p ∷ ps) (suc k) h = set-suc (bit (f p) + 2 * bits f ps) k ∙ ap (λ n. is_set n k) (half (f p) (bits f ps)) ∙ bits_at f ps k (omega arith)

-- and no bit past the last phrase is set
pub bits-lt : (f : List ℕ → Bool) (ps : List (List ℕ)) → bits f ps < 2 ^ length ps
unfolding bits
bits-lt f [] = omega arith
bits-lt f (p ∷ ps) = by-test (λ b. bit b + 2 * bits f ps < 2 ^ suc (length ps)) (f p) (λ _. omega (arith, bits-lt f ps, pow-suc 2 (length ps))) (λ _. omega (arith, bits-lt f ps, pow-suc 2 (length ps)))

-- one phrase more
pub bits-more : (f : List ℕ → Bool) (ps : List (List ℕ)) (i : ℕ) → i < length ps → bits f (take (suc i) ps) ≡ bits f (take i ps) + cond (f (get_or ps i [])) (2 ^ i) 0
unfolding bits
bits-more f [] i h = absurd (omega arith)
bits-more f (p ∷ ps) zero h = by-test (λ b. bit b + 2 * bits f (take 0 ps) ≡ 0 + cond b 1 0) (f p) (λ _. omega arith) (λ _. omega arith)
bits-more f (p ∷ ps) (suc i) h =
    ap (λ n. bit (f p) + 2 * n) (bits-more f ps i (omega arith))
    ∙ by-test (λ b. bit (f p) + 2 * (bits f (take i ps) + cond b (2 ^ i) 0) ≡ bit (f p) + 2 * bits f (take i ps) + cond b (2 ^ suc i) 0) (f (get_or ps i []))
    (λ _. omega (arith, pow-suc 2 i)) (λ _. omega arith)

-- a phrase is a prefix of itself
pub known_at : (ps : List (List ℕ)) (l : List ℕ) (k : ℕ) → k < length ps → starts_with (get_or ps k []) l ≡ true → known ps l ≡ true
unfolding known
known_at [] l k h e = absurd (omega arith)
known_at (p ∷ ps) l zero h e = rw e
known_at (p ∷ ps) l (suc k) h e = by-test (λ b. b || known ps l ≡ true) (starts_with p l) (λ _. refl) (λ _. known_at ps l k (omega arith) e)

pub known-phrase : (ps : List (List ℕ)) (k : ℕ) → k < length ps → known ps (get_or ps k []) ≡ true
unfolding starts_with
known-phrase ps k h = known_at ps (get_or ps k []) k h (eq-same (take-length (get_or ps k [])))

-- the number is seen from the state alone
pub ended-state : (ps : List (List ℕ)) (t : List ℕ) → ended ps (state ps t) ≡ ended ps t
ended-state ps t = bits-same (ends_with (state ps t)) (ends_with t) ps (λ k h. ends-state ps t (get_or ps k []) (known-phrase ps k h))

-- and is that of the fail link with the phrases that are the state itself
pub ended-fail : (ps : List (List ℕ)) (s : List ℕ) → ((k : ℕ) → k < length ps → 1 ≤ length (get_or ps k [])) → ended ps s ≡ bit_or (own ps s) (ended ps (fail ps s))
ended-fail ps s some =
    bits-same (ends_with s) (λ p. same s p || ends_with (fail ps s) p) ps (λ k h. ends-fail ps s (get_or ps k []) (some k h) (known-phrase ps k h))
    ∙ bits-or (same s) (ends_with (fail ps s)) ps

-- nothing was read: only an empty phrase would end
pub ended-root : (ps : List (List ℕ)) → ended ps [] ≡ own ps []
unfolding ends_with
ended-root ps = bits-same (ends_with []) (same []) ps (λ k _. ap (λ l. same l (get_or ps k [])) (drop-nil (0 - length (get_or ps k []))))
