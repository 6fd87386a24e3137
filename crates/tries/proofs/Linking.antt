-- The laws of the pass over rising states: a state's fail link from its parent's, and the state done. Assumes nothing.
use mathlib.Core.Path.{◌≡◌, sym, ap, ap₂, ◌∙◌}
use Prim.Native.Nat.{ℕ, suc, ◌+◌, ◌*◌, ◌≤◌, ◌<◌}
use native.Mathlib.Omega.{arith}
use mathlib.Core.List.{List, [], ◌∷◌, ◌++◌}
use lib.ListN.{length, get_or, drop, length-drop}
use lib.Dec.{ltb}
use lib.Bits.{bit_or}
use borrow.Author.Tests.{ltb-true, ltb-false}
use Rattle.matching.proofs.CaseAnalysis.{by-test}
use Rattle.phrases.specs.Phrases.{ended}
use Rattle.phrases.specs.States.{next, fail}
use Rattle.tries.specs.Tables.{letter_at, fail_at, name, Child, Trie}
use Rattle.tries.specs.Rows.{Rows, Leads, Stepping}
use Rattle.tries.specs.Links.{bits_at, joined, Linking, Failed}
use Rattle.phrases.proofs.States.{state-short, fail-child, fail-first, ended-fail}
use Rattle.tries.proofs.Tries.{letter-kept}
use Rattle.tries.proofs.Growth.{newest}
use Rattle.tries.proofs.Links.{long-name}
use Rattle.tries.proofs.Marks.{joined-long, joined-kept, joined-link, joined-bits, bits-kept, trie-same}

module _ {ps names : List (List ℕ)} {t : List ℕ} {x : ℕ} (l : Linking ps names x t) (above : 1 ≤ x) (x< : x < length names) where
  trie : Trie names t
  trie = l.linked.trie

  -- the parent is a state that is done
  pub parent-below : fail_at t x < x
  parent-below = (l.up x above (omega arith) x<).0

  child : Child names t (fail_at t x) x
  child = (l.up x above (omega arith) x<).1

  -- a child of the root: the root
  pub failed-root : fail_at t x ≡ 0 → Failed ps names x 0
  failed-root z =
      let e : name names x ≡ letter_at t x ∷ [] = child ∙ ap (λ n. n ++ (letter_at t x ∷ [])) (ap (name names) z ∙ trie.root) in
      record { below = above; is = trie.root ∙ sym (fail-first ps (letter_at t x)) ∙ ap (fail ps) (sym e) }

  -- any other: the step by its letter from its parent's fail link
  module _ (z : fail_at t x ≡ 0 → ⊥) where
    pub link-below : fail_at t (fail_at t x) < x
    link-below = let b = parent-below in omega (arith, l.linked.falls (fail_at t x) (omega arith) b)

    pub stepping : {w r : ℕ} → Rows ps names w r t → 1 ≤ r → letter_at t x < 256 → Stepping t w r (fail_at t (fail_at t x)) (letter_at t x)
    stepping rows some byte = record { phrases = ps; names = names; done = x; linked = l.linked; rows = rows; some = some; inside = link-below; byte = byte }

    pub failed-step : {r : ℕ} → Leads ps names (fail_at t (fail_at t x)) (letter_at t x) r → Failed ps names x r
    failed-step {r} s =
        let b : fail_at t x < x = parent-below in
        let p : ℕ = fail_at t x in
        let c : ℕ = letter_at t x in
        let is : name names r ≡ fail ps (name names x) =
        s.is ∙ ap (λ n. next ps n c) (l.linked.link p (omega arith) b) ∙ sym (fail-child ps (name names p) c (long-name l.linked p (omega arith) (omega arith))) ∙ ap (fail ps) (sym child) in
        let long : 1 ≤ length (name names x) = long-name l.linked x above x< in
        let short : length (name names r) < length (name names x) = omega (arith, ap length is, state-short ps (drop 1 (name names x)), length-drop 1 (name names x)) in
        record {
          below = by-test (λ _. r < x) (ltb r x) (λ k. ltb-true r x k) (λ k. absurd (omega (arith, l.rising x r (ltb-false r x k) s.inside)));
          is = is;
        }

  -- the state is done
  pub linking-next : {f : ℕ} → Failed ps names x f → ((i : ℕ) → get_or t i 0 < 65536) → Linking ps names (suc x) (joined t x f)
  linking-next {f} d small =
      let t' : List ℕ = joined t x f in
      let room : 8 * x + 8 ≤ length t = omega (arith, trie.room) in
      let kept : (y g : ℕ) → g < 8 → (y ≡ x → g < 3) → get_or t' (8 * y + g) 0 ≡ get_or t (8 * y + g) 0 = joined-kept t x f d.below room in
      let trie' : Trie names t' = trie-same trie (joined-long t x f d.below room) (λ y g h k. kept y g (omega arith) (λ _. k)) in
      let others : (y : ℕ) → (y ≡ x → ⊥) → bits_at t' y ≡ bits_at t y =
      λ y n. bits-kept t t' y (λ g _ h. kept y g h (λ e. absurd (n e))) in
      let fails : (y : ℕ) → (y ≡ x → ⊥) → fail_at t' y ≡ fail_at t y = λ y n. kept y 3 (omega arith) (λ e. absurd (n e)) in
      let own-link : fail_at t' x ≡ f = joined-link t x f d.below room in
      record {
        linked = record {
          trie = trie';
          most = x<;
          front = l.linked.front;
          all = l.linked.all;
          falls = λ s a h.
              newest (λ s. 1 ≤ s → fail_at t' s < s) x s h
              (λ k a. rw (fails s (λ e. omega arith)) (l.linked.falls s a k))
              (λ _. rw own-link d.below) a;
          link = λ s a h.
              newest (λ s. 1 ≤ s → name names (fail_at t' s) ≡ fail ps (name names s)) x s h
              (λ k a. rw (fails s (λ e. omega arith)) (l.linked.link s a k))
              (λ _. rw own-link d.is) a;
        };
        up = λ y a h k.
            let n : y ≡ x → ⊥ = λ e. omega arith in
            let u = l.up y a (omega arith) k in
            rw (fails y n) (u.0, u.1 ∙ ap (λ c. name names (fail_at t y) ++ (c ∷ [])) (sym (letter-kept t t' y (kept y 0 (omega arith) (λ _. omega arith)))));
        bits = λ y h.
            newest (λ y. bits_at t' y ≡ ended ps (name names y)) x y h
            (λ k. others y (λ e. omega arith) ∙ l.bits y k)
            (joined-bits t x f d.below room small ∙ ap₂ bit_or (l.ones x (omega arith) x<) (l.bits f d.below ∙ ap (ended ps) d.is) ∙ sym (ended-fail ps (name names x) l.some));
        ones = λ y h k. others y (λ e. omega arith) ∙ l.ones y (omega arith) k;
        rising = l.rising;
        some = l.some;
      }
