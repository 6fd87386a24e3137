-- The laws of the step by the table: enough looks and links give one answer, the child and the state that they give are the right ones, and a walk by the table gives the numbers of the states' walk. Assumes nothing.
use mathlib.Core.Path.{◌≡◌, refl, sym, ap, ap₂, ◌∙◌}
use Prim.Native.Nat.{ℕ, zero, suc, ◌≤◌, ◌<◌}
use native.Mathlib.Omega.{arith}
use mathlib.Core.List.{List, [], ◌∷◌}
use lib.ListN.{length, get_or}
use lib.Dec.{eqb, ltb}
use borrow.Author.Tests.{ltb-true, ltb-false, lt-ltb, le-ltb, eqb-true, eqb-false, eq-eqb, ne_eqb}
use Rattle.matching.proofs.CaseAnalysis.{by-test}
use Rattle.phrases.specs.Phrases.{ended, numbers}
use Rattle.phrases.specs.States.{next, step}
use Rattle.tries.specs.Tables.{letter_at, child_at, sibling_at, fail_at, name, Trie, LookedUp, Linked}
use Rattle.tries.specs.Rows.{class_at, row_at, Rows, Leads, Rowed}
use Rattle.tries.specs.Steps.{child_from, child_of, state_from, state_after, step_on}
use Rattle.tries.proofs.Tries.{Searching, search-start, search-falls, search-on, search-found, search-none}
use Rattle.tries.proofs.Rows.{Falling, fall-start, fall-less, fall-found, fall-on, fall-row}

-- ---- the child of a state

-- nothing is below state 0
child-end : (looks : ℕ) (t : List ℕ) (c x : ℕ) → x ≤ 0 → child_from looks t c x ≡ 0
unfolding child_from
child-end zero t c x h = refl
child-end (suc looks) t c x h = rw (eq-eqb x 0 (omega arith))

-- state x is it, or it is looked for among the siblings
pub child-here : (looks : ℕ) (t : List ℕ) (c x : ℕ) → 1 ≤ x → letter_at t x ≡ c → child_from (suc looks) t c x ≡ x
unfolding child_from
child-here looks t c x h e = rw (ne_eqb x 0 (λ z. omega arith), eq-eqb (letter_at t x) c e)

pub child-on : (looks : ℕ) (t : List ℕ) (c x : ℕ) → 1 ≤ x → (letter_at t x ≡ c → ⊥) → child_from (suc looks) t c x ≡ child_from looks t c (sibling_at t x)
unfolding child_from
child-on looks t c x h n = rw (ne_eqb x 0 (λ z. omega arith), ne_eqb (letter_at t x) c n)

module _ {names : List (List ℕ)} {t : List ℕ} (trie : Trie names t) where
  sibling-falls : (x : ℕ) → 1 ≤ x → x < length names → sibling_at t x < x
  sibling-falls x h l = let p = trie.parent x h l in (trie.sibling p.parent x (omega (arith, p.before)) h l p.child).below

  -- more looks than x change nothing
  looks-enough : (a b c x : ℕ) → x < length names → x ≤ a → x ≤ b → child_from a t c x ≡ child_from b t c x
  looks-enough zero b c x l h k = child-end 0 t c x h ∙ sym (child-end b t c x h)
  looks-enough (suc a) zero c x l h k = child-end (suc a) t c x k ∙ sym (child-end 0 t c x k)
  looks-enough (suc a) (suc b) c x l h k =
      by-test (λ _. child_from (suc a) t c x ≡ child_from (suc b) t c x) (eqb x 0)
      (λ z. let z' : x ≤ 0 = omega (arith, eqb-true x 0 z) in child-end (suc a) t c x z' ∙ sym (child-end (suc b) t c x z'))
      (λ z.
      let some : 1 ≤ x = omega (arith, eqb-false x 0 z) in
      let less : sibling_at t x < x = sibling-falls x some l in
      by-test (λ _. child_from (suc a) t c x ≡ child_from (suc b) t c x) (eqb (letter_at t x) c)
      (λ e. child-here a t c x some (eqb-true (letter_at t x) c e) ∙ sym (child-here b t c x some (eqb-true (letter_at t x) c e)))
      (λ e.
      let n = eqb-false (letter_at t x) c e in
      child-on a t c x some n ∙ looks-enough a b c (sibling_at t x) (omega arith) (omega arith) (omega arith) ∙ sym (child-on b t c x some n)))

  -- as the code looks: from x on, x looks at most
  pub child-next : (c x : ℕ) → x < length names → 1 ≤ x → (letter_at t x ≡ c → ⊥) → child_from x t c x ≡ child_from (sibling_at t x) t c (sibling_at t x)
  child-next c zero l h n = absurd (omega arith)
  child-next c (suc x) l h n =
      let less : sibling_at t (suc x) < suc x = sibling-falls (suc x) h l in
      child-on x t c (suc x) h n ∙ looks-enough x (sibling_at t (suc x)) c (sibling_at t (suc x)) (omega arith) (omega arith) (omega arith)

  pub child-found : (c x : ℕ) → 1 ≤ x → letter_at t x ≡ c → child_from x t c x ≡ x
  child-found c zero h e = absurd (omega arith)
  child-found c (suc x) h e = child-here x t c (suc x) h e

  pub child-none : (c x : ℕ) → x ≤ 0 → child_from x t c x ≡ 0
  child-none c x h = child-end x t c x h

  searched : (s : ℕ) → s < length names → (looks c x : ℕ) → Searching names t s c x → x ≤ looks → LookedUp names s c (child_from looks t c x)
  searched s s< zero c x v h = let z : x ≡ 0 = omega arith in rw (child-end 0 t c x h) (search-none trie s< c (rw z at v))
  searched s s< (suc looks) c x v h =
      by-test (λ _. LookedUp names s c (child_from (suc looks) t c x)) (eqb x 0)
      (λ z. let z' : x ≡ 0 = eqb-true x 0 z in rw (child-end (suc looks) t c x (omega arith)) (search-none trie s< c (rw z' at v)))
      (λ z.
      let some : 1 ≤ x = omega (arith, eqb-false x 0 z) in
      by-test (λ _. LookedUp names s c (child_from (suc looks) t c x)) (eqb (letter_at t x) c)
      (λ e. let e' = eqb-true (letter_at t x) c e in rw (child-here looks t c x some e') (search-found trie s< c v some e'))
      (λ e.
      let n = eqb-false (letter_at t x) c e in
      rw (child-on looks t c x some n)
      (searched s s< looks c (sibling_at t x) (search-on trie s< c v some n) (omega (arith, search-falls trie s< c v some)))))

  -- what the table gives is the child of state s by letter c
  pub child-is : (s c : ℕ) → s < length names → LookedUp names s c (child_of t s c)
  child-is s c s< = searched s s< (child_at t s) c (child_at t s) (search-start trie s< c) (omega arith)

-- ---- the state after a letter

module _ (t : List ℕ) (w count c : ℕ) where
  -- a state with a row; one with such a child; one that goes on to its fail link
  pub by_row : (links s : ℕ) → s < count → state_from links t w count c s ≡ row_at t w s (class_at t c)
  unfolding state_from
  by_row zero s h = refl
  by_row (suc links) s h = rw (lt-ltb s count h)

  pub by-child : (links s : ℕ) → count ≤ s → 1 ≤ child_of t s c → state_from (suc links) t w count c s ≡ child_of t s c
  unfolding state_from
  by-child links s h e = rw (le-ltb s count h, ne_eqb (child_of t s c) 0 (λ z. omega arith))

  pub by-fail : (links s : ℕ) → count ≤ s → child_of t s c ≤ 0 → state_from (suc links) t w count c s ≡ state_from links t w count c (fail_at t s)
  unfolding state_from
  by-fail links s h e = rw (le-ltb s count h, eq-eqb (child_of t s c) 0 (omega arith))

module _ {ps names : List (List ℕ)} {done : ℕ} {t : List ℕ} (w : ℕ) {count : ℕ} (l : Linked ps names done t) (some : 1 ≤ count) where
  -- more links than s change nothing
  links-enough : (a b c s : ℕ) → s < done → s ≤ a → s ≤ b → state_from a t w count c s ≡ state_from b t w count c s
  links-enough zero b c s d h k = by_row t w count c 0 s (omega arith) ∙ sym (by_row t w count c b s (omega arith))
  links-enough (suc a) zero c s d h k = by_row t w count c (suc a) s (omega arith) ∙ sym (by_row t w count c 0 s (omega arith))
  links-enough (suc a) (suc b) c s d h k =
      by-test (λ _. state_from (suc a) t w count c s ≡ state_from (suc b) t w count c s) (ltb s count)
      (λ e. let e' = ltb-true s count e in by_row t w count c (suc a) s e' ∙ sym (by_row t w count c (suc b) s e'))
      (λ e.
      let e' : count ≤ s = ltb-false s count e in
      let less : fail_at t s < s = l.falls s (omega arith) d in
      by-test (λ _. state_from (suc a) t w count c s ≡ state_from (suc b) t w count c s) (ltb 0 (child_of t s c))
      (λ f. let f' = ltb-true 0 (child_of t s c) f in by-child t w count c a s e' f' ∙ sym (by-child t w count c b s e' f'))
      (λ f.
      let f' = ltb-false 0 (child_of t s c) f in
      by-fail t w count c a s e' f' ∙ links-enough a b c (fail_at t s) (omega arith) (omega arith) (omega arith) ∙ sym (by-fail t w count c b s e' f')))

  -- as the code goes: from s on, s links at most
  pub state-by-child : (c s : ℕ) → count ≤ s → 1 ≤ child_of t s c → state_after t w count s c ≡ child_of t s c
  state-by-child c zero h e = absurd (omega arith)
  state-by-child c (suc s) h e = by-child t w count c s (suc s) h e

  pub state-by-fail : (c s : ℕ) → s < done → count ≤ s → child_of t s c ≤ 0 → state_after t w count s c ≡ state_after t w count (fail_at t s) c
  state-by-fail c zero d h e = absurd (omega arith)
  state-by-fail c (suc s) d h e =
      let less : fail_at t (suc s) < suc s = l.falls (suc s) (omega arith) d in
      by-fail t w count c s (suc s) h e ∙ links-enough s (fail_at t (suc s)) c (fail_at t (suc s)) (omega arith) (omega arith) (omega arith)

  fallen : (s c : ℕ) → Rows ps names w count t → c < 256 → (links at : ℕ) → Falling ps names done s c at → at ≤ links → Leads ps names s c (state_from links t w count c at)
  fallen s c r b zero at f h = rw (by_row t w count c 0 at (omega arith)) (fall-row l r f (omega arith) b)
  fallen s c r b (suc links) at f h =
      by-test (λ _. Leads ps names s c (state_from (suc links) t w count c at)) (ltb at count)
      (λ e. let e' = ltb-true at count e in rw (by_row t w count c (suc links) at e') (fall-row l r f e' b))
      (λ e.
      let e' = ltb-false at count e in
      let u = child-is l.trie at c (omega (arith, f.inside, l.most)) in
      by-test (λ _. Leads ps names s c (state_from (suc links) t w count c at)) (ltb 0 (child_of t at c))
      (λ g. let g' = ltb-true 0 (child_of t at c) g in rw (by-child t w count c links at e' g') (fall-found l f u g'))
      (λ g.
      let g' = ltb-false 0 (child_of t at c) g in
      rw (by-fail t w count c links at e' g') (fallen s c r b links (fail_at t at) (fall-on l f (omega arith) u g') (omega (arith, fall-less l f (omega arith))))))

  -- what the table gives is the state that letter c leads to from state s
  pub state-leads : {s c : ℕ} → Rows ps names w count t → s < done → c < 256 → Leads ps names s c (state_after t w count s c)
  state-leads {s} {c} r h b = fallen s c r b s s (fall-start l h) (omega arith)

-- ---- the step, and a walk of steps

module _ {ps names : List (List ℕ)} {t : List ℕ} {w count : ℕ} (d : Rowed ps names t w count) where
  -- the step by the table is the step of the states: the next state's number stands for the next state, and the number is that of the phrases that end there
  pub step_is : (s c : ℕ) → s < length names → c < 256 → Leads ps names s c (step_on t w count s c).state
  step_is s c h b = state-leads w d.linking.linked d.some d.rows h b

  pub step-ended : (s c : ℕ) → s < length names → c < 256 → (step_on t w count s c).ended ≡ ended ps (next ps (name names s) c)
  step-ended s c h b = let e = step_is s c h b in d.linking.bits (step_on t w count s c).state e.inside ∙ ap (ended ps) e.is

  -- so a walk by the table gives the numbers of the states' walk
  pub walk_is : (cs : List ℕ) (s : ℕ) → s < length names → ((i : ℕ) → i < length cs → get_or cs i 0 < 256) → numbers (step_on t w count) s cs ≡ numbers (step ps) (name names s) cs
  unfolding numbers
  walk_is [] s h b = refl
  walk_is (c ∷ cs) s h b =
      let byte : c < 256 = b 0 (omega arith) in
      let e = step_is s c h byte in
      ap₂ (λ x xs. x ∷ xs) (step-ended s c h byte) (walk_is cs (step_on t w count s c).state e.inside (λ i k. b (suc i) (omega arith)) ∙ ap (λ n. numbers (step ps) n cs) e.is)
