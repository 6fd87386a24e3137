-- The laws of the loop that sets each phrase's bit at its own state. Assumes nothing.
use mathlib.Core.Path.{◌≡◌, refl, sym, ap, ◌∙◌}
use Prim.Native.Nat.{ℕ, suc, ◌+◌, ◌*◌, ◌^◌, ◌≤◌, ◌<◌}
use native.Mathlib.Omega.{arith}
use mathlib.Core.Bool.{true, false, cond}
use mathlib.Core.List.{List, [], ◌∷◌, ◌++◌}
use lib.ListN.{length, get_or, take}
use lib.Seq.{take_all, length-take-le}
use lib.Dec.{eqb}
use borrow.Author.Tests.{eqb-true, eqb-false}
use Rattle.matching.specs.Occurrences.{same}
use Rattle.matching.proofs.CaseAnalysis.{by-test}
use Rattle.matching.proofs.Occurrences.{same_true, eq-same}
use Rattle.phrases.specs.Phrases.{bits, ended}
use Rattle.phrases.specs.States.{own}
use Rattle.tries.specs.Tables.{fail_at, name, Child, Trie}
use Rattle.tries.specs.Group.{Named, Grown}
use Rattle.tries.specs.Links.{bits_at, marked, Linking}
use Rattle.phrases.proofs.States.{bits-lt, bits-more, ended-root}
use Rattle.tries.proofs.Tries.{letter-kept}
use Rattle.tries.proofs.Marks.{marked-long, marked-bits, marked-kept, bits-kept, trie-same}

-- each state has the bits of those of the first i phrases that it is
pub record Marking (ps : List (List ℕ)) (t at : List ℕ) (n i : ℕ) : Type 0 where
  pub names : List (List ℕ)
  pub trie : Trie names t
  pub named : Named ps names at n
  pub up : (x : ℕ) → 1 ≤ x → x < n → (fail_at t x < x) × Child names t (fail_at t x) x
  pub ones : (y : ℕ) → y < n → bits_at t y ≡ own (take i ps) (name names y)

pub marking-none : {ps : List (List ℕ)} {t at : List ℕ} {n : ℕ} → Grown ps t at n → Marking ps t at n 0
unfolding bits
marking-none {ps} {t} {at} {n} g =
    record {
      names = g.names;
      trie = g.plain.trie;
      named = g.named;
      up = λ x a h. g.plain.up x a (omega (arith, g.named.count));
      ones = λ y h.
          let k : y < length g.names = omega (arith, g.named.count) in
          omega (arith, g.plain.blank y 4 k (omega arith) (omega arith), g.plain.blank y 5 k (omega arith) (omega arith), g.plain.blank y 6 k (omega arith) (omega arith), g.plain.blank y 7 k (omega arith) (omega arith));
    }

module _ {ps : List (List ℕ)} {t at : List ℕ} {n i : ℕ} (m : Marking ps t at n i) (h : i < length ps) (at_most : length ps ≤ 64) where
  x : ℕ
  x = get_or at i 0

  pub mark-room : 8 * get_or at i 0 + 8 ≤ length t
  mark-room = omega (arith, m.trie.room, m.named.count, m.named.inside i h)

  pub mark-above : bits_at t (get_or at i 0) < 2 ^ i
  mark-above =
      let s : length (take i ps) ≡ i = length-take-le i ps (omega arith) in
      rw (m.ones (get_or at i 0) (m.named.inside i h)) (rw s at (bits-lt (same (name m.names (get_or at i 0))) (take i ps)))

  pub marking-next : Marking ps (marked t (get_or at i 0) i) at n (suc i)
  marking-next =
      let s : ℕ = get_or at i 0 in
      let t' : List ℕ = marked t s i in
      let i< : i < 64 = omega arith in
      let W : List (List ℕ) = m.names in
      let kept : (y f : ℕ) → f < 8 → (y ≡ s → f < 4) → get_or t' (8 * y + f) 0 ≡ get_or t (8 * y + f) 0 = marked-kept t s i i< mark-room in
      record {
        names = W;
        trie = trie-same m.trie (marked-long t s i i< mark-room) (λ y g a b. kept y g (omega arith) (λ _. omega arith));
        named = m.named;
        up = λ y a b.
            let u = m.up y a b in
            rw (kept y 3 (omega arith) (λ _. omega arith)) (u.0, u.1 ∙ ap (λ c. name W (fail_at t y) ++ (c ∷ [])) (sym (letter-kept t t' y (kept y 0 (omega arith) (λ _. omega arith)))));
        ones = λ y b.
            by-test (λ _. bits_at t' y ≡ own (take (suc i) ps) (name W y)) (eqb y s)
            (λ e.
            let z : y ≡ s = eqb-true y s e in
            let is : same (name W s) (get_or ps i []) ≡ true = eq-same (m.named.here i h) in
            rw z (marked-bits t s i i< mark-room ∙ ap (λ n. n + 2 ^ i) (m.ones s (m.named.inside i h)) ∙ sym (bits-more (same (name W s)) ps i h ∙ ap (λ b. own (take i ps) (name W s) + cond b (2 ^ i) 0) is)))
            (λ e.
            let n : y ≡ s → ⊥ = eqb-false y s e in
            let others : bits_at t' y ≡ bits_at t y = bits-kept t t' y (λ g _ b. kept y g b (λ z. absurd (n z))) in
            let isn't : same (name W y) (get_or ps i []) ≡ false =
            by-test (λ b. b ≡ false) (same (name W y) (get_or ps i []))
            (λ f. absurd (n (m.trie.once y s (omega (arith, m.named.count)) (omega (arith, m.named.count, m.named.inside i h)) (same_true (name W y) (get_or ps i []) f ∙ sym (m.named.here i h))))) (λ _. refl) in
            others ∙ m.ones y b ∙ sym (bits-more (same (name W y)) ps i h ∙ ap (λ b. own (take i ps) (name W y) + cond b (2 ^ i) 0) isn't ∙ omega arith));
      }

-- all bits are set: the links can be made
pub marking-done : {ps : List (List ℕ)} {t at : List ℕ} {n i : ℕ} (m : Marking ps t at n i) → length ps ≤ i → ((k : ℕ) → k < length ps → 1 ≤ length (get_or ps k [])) → Linking ps m.names 1 t
marking-done {ps} {t} {at} {n} {i} m h some =
    let count : length m.names ≡ n = m.named.count in
    let whole : take i ps ≡ ps = take_all i ps h in
    let ones : (y : ℕ) → y < n → bits_at t y ≡ own ps (name m.names y) = λ y k. m.ones y k ∙ ap (λ l. own l (name m.names y)) whole in
    record {
      linked = record {
        trie = m.trie;
        most = m.trie.some;
        front = λ s k. m.named.front s (omega arith);
        all = λ l e. let w = m.named.all l e in (w.0, (omega (arith, w.1.0), w.1.1));
        falls = λ s a b. absurd (omega arith);
        link = λ s a b. absurd (omega arith);
      };
      up = λ y a _ k. m.up y a (omega arith);
      bits = λ y k.
          let z : y ≡ 0 = omega arith in
          let r : name m.names y ≡ [] = ap (name m.names) z ∙ m.trie.root in
          ones y (omega (arith, m.trie.some)) ∙ ap (own ps) r ∙ sym (ended-root ps) ∙ ap (ended ps) (sym r);
      ones = λ y _ k. ones y (omega arith);
      rising = λ s r a b. m.named.rising s r a (omega arith);
      some = some;
    }
