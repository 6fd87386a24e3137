-- Laws of the double window's entries, from their rule alone. Assumes nothing.
use mathlib.Core.Path.{◌≡◌, refl, sym, ap, ◌∙◌}
use Prim.Native.Nat.{ℕ, suc, ◌+◌, ◌-◌, ◌*◌, ◌≤◌, ◌<◌}
use native.Mathlib.Omega.{arith}
use mathlib.Core.List.{List}
use mathlib.Core.Bool.{cond}
use lib.ListN.{length, get_or}
use lib.Dec.{eqb, ltb}
use borrow.Author.Tests.{eqb-true, eqb-false, ne_eqb, eq-eqb, ltb-true, ltb-false}
use Rattle.matching.proofs.CaseAnalysis.{by-test}
use Rattle.matching.proofs.Occurrences.{Stands}
use Rattle.letter_tables.specs.BadCharacter.{last_in, horspool_entry}
use Rattle.letter_tables.specs.DoubleWindow.{last_of, end_entry, double_entry}
use Rattle.letter_tables.proofs.BadCharacter.{last_in-le, last_in-more, bad-character, horspool_entry-le}

-- ---- the rules in one formula

-- by u alone: m less the last position of u
pub end_entry-is : (P : List ℕ) (u : ℕ) → end_entry P u ≡ length P - last_of P u
unfolding end_entry
end_entry-is P u =
    by-test (λ t. cond t 0 (cond (eqb (last_of P u) 0) (length P) (length P - last_of P u)) ≡ length P - last_of P u) (eqb (last_of P u) (length P))
    (λ e. omega (arith, eqb-true (last_of P u) (length P) e))
    (λ _.
    by-test (λ t. cond t (length P) (length P - last_of P u) ≡ length P - last_of P u) (eqb (last_of P u) 0) (λ e. omega (arith, eqb-true (last_of P u) 0 e)) (λ _. refl))

-- by u and v: where the pattern has u, by u alone; else 2m less the last position of v
pub double_entry-in : (P : List ℕ) (u v : ℕ) → 1 ≤ last_of P u → double_entry P u v ≡ length P - last_of P u
unfolding double_entry
double_entry-in P u v h =
    by-test (λ t. cond t 0 (cond (eqb (last_of P u) 0) (cond (eqb (last_of P v) 0) (2 * length P) (2 * length P - last_of P v)) (length P - last_of P u)) ≡ length P - last_of P u) (eqb (last_of P u) (length P))
    (λ e. omega (arith, eqb-true (last_of P u) (length P) e))
    (λ _. rw (ne_eqb (last_of P u) 0 (λ e. omega arith)))

pub double_entry-out : (P : List ℕ) (u v : ℕ) → last_of P u ≡ 0 → double_entry P u v ≡ 2 * length P - last_of P v
unfolding double_entry
double_entry-out P u v h =
    by-test (λ t. cond t 0 (cond (eqb (last_of P u) 0) (cond (eqb (last_of P v) 0) (2 * length P) (2 * length P - last_of P v)) (length P - last_of P u)) ≡ 2 * length P - last_of P v) (eqb (last_of P u) (length P))
    (λ e. omega (arith, eqb-true (last_of P u) (length P) e, last_in-le P (length P) v))
    (λ _.
    rw (eq-eqb (last_of P u) 0 h)
    (by-test (λ t. cond t (2 * length P) (2 * length P - last_of P v) ≡ 2 * length P - last_of P v) (eqb (last_of P v) 0) (λ e. omega (arith, eqb-true (last_of P v) 0 e)) (λ _. refl)))

-- ---- the rules as an engine reads them off Horspool's entries

last_letter : (P : List ℕ) (c : ℕ) → 1 ≤ length P → last_of P c ≡ cond (eqb (get_or P (length P - 1) 0) c) (length P) (last_in P (length P - 1) c)
last_letter P c h =
    let e : suc (length P - 1) ≡ length P = omega arith in
    ap (λ (n : ℕ). last_in P n c) (sym e) ∙ last_in-more P (length P - 1) c ∙ ap (λ (n : ℕ). cond (eqb (get_or P (length P - 1) 0) c) n (last_in P (length P - 1) c)) e

-- what it reads by one letter: 0 where that is the last letter, else its entry
abbrev pub read : List ℕ → ℕ → ℕ
read P c = cond (eqb (get_or P (length P - 1) 0) c) 0 (horspool_entry P c)

pub read-last : (P : List ℕ) (c : ℕ) → get_or P (length P - 1) 0 ≡ c → read P c ≡ 0
read-last P c e = rw (eq-eqb (get_or P (length P - 1) 0) c e)

pub read-other : (P : List ℕ) (c : ℕ) → (get_or P (length P - 1) 0 ≡ c → ⊥) → read P c ≡ horspool_entry P c
read-other P c n = rw (ne_eqb (get_or P (length P - 1) 0) c n)

pub read-le : (P : List ℕ) (c : ℕ) → read P c ≤ length P
read-le P c = by-test (λ t. cond t 0 (horspool_entry P c) ≤ length P) (eqb (get_or P (length P - 1) 0) c) (λ _. omega arith) (λ _. horspool_entry-le P c)

-- the rule by one letter is just that
pub end_entry-read : (P : List ℕ) (c : ℕ) → 1 ≤ length P → end_entry P c ≡ read P c
end_entry-read P c h =
    end_entry-is P c ∙ ap (λ (n : ℕ). length P - n) (last_letter P c h)
    ∙ by-test (λ t. length P - cond t (length P) (last_in P (length P - 1) c) ≡ cond t 0 (horspool_entry P c)) (eqb (get_or P (length P - 1) 0) c) (λ _. omega arith) (λ _. refl)

-- the rule by u and v is what it reads by u, unless that is m, which says that the pattern lacks u; then it is m more than what it reads by v
pub double_entry-read : (P : List ℕ) (u v : ℕ) → 1 ≤ length P → double_entry P u v ≡ cond (eqb (read P u) (length P)) (length P + read P v) (read P u)
double_entry-read P u v h =
    let by-u : end_entry P u ≡ read P u = end_entry-read P u h in
    let by-v : end_entry P v ≡ read P v = end_entry-read P v h in
    by-test (λ t. double_entry P u v ≡ cond t (length P + read P v) (read P u)) (eqb (read P u) (length P))
    (λ e. omega (arith, double_entry-out P u v (omega (arith, end_entry-is P u, eqb-true (read P u) (length P) e)), end_entry-is P v, last_in-le P (length P) v))
    (λ e. omega (arith, double_entry-in P u v (omega (arith, end_entry-is P u, eqb-false (read P u) (length P) e)), end_entry-is P u))

pub end_entry-le : (P : List ℕ) (u : ℕ) → end_entry P u ≤ length P
end_entry-le P u = omega (arith, end_entry-is P u)

pub double_entry-le : (P : List ℕ) (u v : ℕ) → double_entry P u v ≤ 2 * length P
double_entry-le P u v =
    by-test (λ _. double_entry P u v ≤ 2 * length P) (ltb 0 (last_of P u))
    (λ e. omega (arith, double_entry-in P u v (ltb-true 0 (last_of P u) e)))
    (λ e. omega (arith, double_entry-out P u v (omega (arith, ltb-false 0 (last_of P u) e))))

-- ---- entry 0: the pattern's last letter lies over u

pub end_entry-zero : (P : List ℕ) (u : ℕ) → 1 ≤ length P → end_entry P u ≡ 0 → last_of P u ≡ length P
end_entry-zero P u h e = omega (arith, end_entry-is P u, last_in-le P (length P) u)

pub double_entry-zero : (P : List ℕ) (u v : ℕ) → 1 ≤ length P → double_entry P u v ≡ 0 → last_of P u ≡ length P
double_entry-zero P u v h e =
    by-test (λ _. last_of P u ≡ length P) (ltb 0 (last_of P u))
    (λ t. omega (arith, double_entry-in P u v (ltb-true 0 (last_of P u) t), last_in-le P (length P) u))
    (λ t. absurd (omega (arith, double_entry-out P u v (omega (arith, ltb-false 0 (last_of P u) t)), last_in-le P (length P) v)))

-- ---- a move by an entry passes over no occurrence

module _ (P T : List ℕ) (s k : ℕ) (after : s < k) (st : Stands P T k) where
  pub end-safe : k < s + end_entry P (get_or T (s + (length P - 1)) 0) → ⊥
  end-safe h =
      let u : ℕ = get_or T (s + (length P - 1)) 0 in
      let e : end_entry P u ≡ length P - last_of P u = end_entry-is P u in
      bad-character P T (length P) (s + (length P - 1)) k (omega arith) (omega arith) (omega arith) (omega arith) st

  pub double-safe : k < s + double_entry P (get_or T (s + (length P - 1)) 0) (get_or T (s + (2 * length P - 1)) 0) → ⊥
  double-safe h =
      let u : ℕ = get_or T (s + (length P - 1)) 0 in
      let v : ℕ = get_or T (s + (2 * length P - 1)) 0 in
      by-test (λ _. ⊥) (ltb 0 (last_of P u))
      (λ t. end-safe (omega (arith, end_entry-is P u, double_entry-in P u v (ltb-true 0 (last_of P u) t))))
      (λ t.
      let none : last_of P u ≡ 0 = omega (arith, ltb-false 0 (last_of P u) t) in
      let e : double_entry P u v ≡ 2 * length P - last_of P v = double_entry-out P u v none in
      by-test (λ _. ⊥) (ltb k (s + length P))
      (λ b. let l : k < s + length P = ltb-true k (s + length P) b in bad-character P T (length P) (s + (length P - 1)) k (omega arith) (omega arith) (omega arith) (omega arith) st)
      (λ b. let l : s + length P ≤ k = ltb-false k (s + length P) b in bad-character P T (length P) (s + (2 * length P - 1)) k (omega arith) (omega arith) (omega arith) (omega arith) st))

-- ---- and where the pattern stands at s, the entry is 0

module _ (P T : List ℕ) (s : ℕ) (some : 1 ≤ length P) (st : Stands P T s) where
  last-there : last_of P (get_or T (s + (length P - 1)) 0) ≡ length P
  last-there =
      let u : ℕ = get_or T (s + (length P - 1)) 0 in
      by-test (λ _. last_of P u ≡ length P) (ltb (last_of P u) (length P))
      (λ e. absurd (bad-character P T (length P) (s + (length P - 1)) s (omega arith) (omega arith) (omega arith) (omega (arith, ltb-true (last_of P u) (length P) e)) st))
      (λ e. omega (arith, ltb-false (last_of P u) (length P) e, last_in-le P (length P) u))

  pub end_entry-stands : end_entry P (get_or T (s + (length P - 1)) 0) ≡ 0
  end_entry-stands = omega (arith, end_entry-is P (get_or T (s + (length P - 1)) 0), last-there)

  pub double_entry-stands : (v : ℕ) → double_entry P (get_or T (s + (length P - 1)) 0) v ≡ 0
  double_entry-stands v = omega (arith, double_entry-in P (get_or T (s + (length P - 1)) 0) v (omega (arith, last-there)), last-there)
