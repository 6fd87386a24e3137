-- The laws of a state's bits in the table: one bit set, and the bits of the fail link joined. Assumes nothing.
use mathlib.Core.Path.{◌≡◌, sym, ap, ap₂, ◌∙◌}
use Prim.Native.Nat.{ℕ, zero, suc, ◌+◌, ◌*◌, ◌/◌, ◌%◌, ◌^◌, ◌≤◌, ◌<◌}
use native.Mathlib.Omega.{arith}
use mathlib.Core.List.{List, [], ◌∷◌, ◌++◌}
use lib.ListN.{length, get_or, set, length-set}
use lib.Seq.{get_or-set_same, get_or-set_other, length-sets}
use lib.Dec.{eqb}
use borrow.Author.Tests.{eqb-true, eqb-false}
use mathlib.Core.Bool.{cond}
use Rattle.matching.proofs.CaseAnalysis.{by-test}
use lib.Bits.{bit_or, or_block}
use lib.Pow.{pow-add, pow_mono, shl_exact}
use Rattle.tries.specs.Tables.{letter_at, fail_at, name, Child, Latest, Trie}
use Rattle.tries.specs.Links.{part_at, bits_at, marked, joined}
use Rattle.tries.proofs.Growth.{sets-outside, sets-inside}
use Rattle.tries.proofs.Tries.{letter-kept}

-- the bits of a state whose four entries stay
pub bits-kept : (t t' : List ℕ) (y : ℕ) → ((g : ℕ) → 4 ≤ g → g < 8 → get_or t' (8 * y + g) 0 ≡ get_or t (8 * y + g) 0) → bits_at t' y ≡ bits_at t y
bits-kept t t' y kept =
    ap₂ (λ a b. a + 65536 * b) (kept 4 (omega arith) (omega arith))
    (ap₂ (λ a b. a + 65536 * b) (kept 5 (omega arith) (omega arith)) (ap₂ (λ a b. a + 65536 * b) (kept 6 (omega arith) (omega arith)) (kept 7 (omega arith) (omega arith))))

-- ---- a bit below 16

pub shl_one : (r : ℕ) → r < 16 → (1 * 2 ^ r) % 65536 ≡ 2 ^ r
shl_one r h = shl_exact {a = 1} 1 r 16 (omega arith) (omega arith) ∙ omega arith

-- ---- one bit more

-- the part of bit 16 q + r has none from bit r up where the number has none from there up
pub part_room : (t : List ℕ) (s q r : ℕ) → q < 4 → bits_at t s < 2 ^ (16 * q + r) → part_at t s q < 2 ^ r
part_room t s zero r l h = omega (arith, pow-add 2 0 r)
part_room t s (suc zero) r l h = omega (arith, pow-add 2 16 r)
part_room t s (suc (suc zero)) r l h = omega (arith, pow-add 2 32 r)
part_room t s (suc (suc (suc zero))) r l h = omega (arith, pow-add 2 48 r)
part_room t s (suc (suc (suc (suc q)))) r l h = absurd (omega arith)

pub mark-fits : (t : List ℕ) (s i : ℕ) → i < 64 → bits_at t s < 2 ^ i → part_at t s (i / 16) + 2 ^ (i % 16) < 65536
mark-fits t s i l h =
    let e : i ≡ 16 * (i / 16) + i % 16 = omega arith in
    let r : i % 16 ≤ 15 = omega arith in
    omega (arith, part_room t s (i / 16) (i % 16) (omega arith) (rw (← e) h), pow_mono r)

-- a part is set: the others stay
set-part : (t : List ℕ) (s q v j : ℕ) → q < 4 → 8 * s + 8 ≤ length t → part_at (set t (8 * s + (4 + q)) v) s j ≡ cond (eqb j q) v (part_at t s j)
set-part t s q v j l room =
    by-test (λ b. part_at (set t (8 * s + (4 + q)) v) s j ≡ cond b v (part_at t s j)) (eqb j q)
    (λ e. rw (eqb-true j q e) (get_or-set_same t (8 * s + (4 + q)) v 0 (omega arith)))
    (λ e. get_or-set_other t (8 * s + (4 + q)) (8 * s + (4 + j)) v 0 (λ d. eqb-false j q e (omega arith)))

set-bits : (t : List ℕ) (s q r : ℕ) → q < 4 → 8 * s + 8 ≤ length t → bits_at (set t (8 * s + (4 + q)) (part_at t s q + 2 ^ r)) s ≡ bits_at t s + 2 ^ (16 * q + r)
set-bits t s q r l room =
    let p : (j : ℕ) → part_at (set t (8 * s + (4 + q)) (part_at t s q + 2 ^ r)) s j ≡ cond (eqb j q) (part_at t s q + 2 ^ r) (part_at t s j) =
    λ j. set-part t s q (part_at t s q + 2 ^ r) j l room in
    ap₂ (λ a b. a + 65536 * b) (p 0) (ap₂ (λ a b. a + 65536 * b) (p 1) (ap₂ (λ a b. a + 65536 * b) (p 2) (p 3))) ∙ weigh q l
  where
    weigh : (q : ℕ) → q < 4
        → cond (eqb 0 q) (part_at t s q + 2 ^ r) (part_at t s 0) + 65536 * (cond (eqb 1 q) (part_at t s q + 2 ^ r) (part_at t s 1) + 65536 * (cond (eqb 2 q) (part_at t s q + 2 ^ r) (part_at t s 2) + 65536 * cond (eqb 3 q) (part_at t s q + 2 ^ r) (part_at t s 3)))
        ≡ bits_at t s + 2 ^ (16 * q + r)
    weigh zero l = omega (arith, pow-add 2 0 r)
    weigh (suc zero) l = omega (arith, pow-add 2 16 r)
    weigh (suc (suc zero)) l = omega (arith, pow-add 2 32 r)
    weigh (suc (suc (suc zero))) l = omega (arith, pow-add 2 48 r)
    weigh (suc (suc (suc (suc q)))) l = absurd (omega arith)

module _ (t : List ℕ) (s i : ℕ) (i< : i < 64) (room : 8 * s + 8 ≤ length t) where
  pub marked-long : length (marked t s i) ≡ length t
  unfolding marked
  marked-long = length-set t (8 * s + (4 + i / 16)) (part_at t s (i / 16) + 2 ^ (i % 16))

  pub marked-bits : bits_at (marked t s i) s ≡ bits_at t s + 2 ^ i
  unfolding marked
  marked-bits = let e : 16 * (i / 16) + i % 16 ≡ i = omega arith in set-bits t s (i / 16) (i % 16) (omega arith) room ∙ ap (λ n. bits_at t s + 2 ^ n) e

  -- all other entries stay
  pub marked-kept : (y f : ℕ) → f < 8 → (y ≡ s → f < 4) → get_or (marked t s i) (8 * y + f) 0 ≡ get_or t (8 * y + f) 0
  unfolding marked
  marked-kept y f h k =
      get_or-set_other t (8 * s + (4 + i / 16)) (8 * y + f) (part_at t s (i / 16) + 2 ^ (i % 16)) 0
      (λ e. let z : y ≡ s = omega arith in let w : f < 4 = k z in omega arith)

-- ---- the bits of a fail link joined

or-words : (a b c d : ℕ) → a < 65536 → c < 65536 → bit_or (a + 65536 * b) (c + 65536 * d) ≡ bit_or a c + 65536 * bit_or b d
or-words a b c d h k =
    let x : a + 65536 * b ≡ b * 65536 + a = omega arith in
    let y : c + 65536 * d ≡ d * 65536 + c = omega arith in
    ap₂ bit_or x y ∙ or_block 16 b d a c h k ∙ omega arith

module _ (t : List ℕ) (x f : ℕ) (f< : f < x) (room : 8 * x + 8 ≤ length t) where
  row : List ℕ
  row = f ∷ bit_or (part_at t x 0) (part_at t f 0) ∷ bit_or (part_at t x 1) (part_at t f 1) ∷ bit_or (part_at t x 2) (part_at t f 2) ∷ bit_or (part_at t x 3) (part_at t f 3) ∷ []

  pub joined-long : length (joined t x f) ≡ length t
  unfolding joined row
  joined-long = length-sets t (8 * x + 3) row

  pub joined-kept : (y g : ℕ) → g < 8 → (y ≡ x → g < 3) → get_or (joined t x f) (8 * y + g) 0 ≡ get_or t (8 * y + g) 0
  unfolding joined row
  joined-kept y g h k = sets-outside row t (8 * x + 3) (8 * y + g) (λ a b. let z : y ≡ x = omega arith in let w : g < 3 = k z in omega arith)

  pub joined-beyond : (i : ℕ) → 8 * x + 8 ≤ i → get_or (joined t x f) i 0 ≡ get_or t i 0
  unfolding joined row
  joined-beyond i h = sets-outside row t (8 * x + 3) i (λ a b. omega arith)

  new : (g j : ℕ) → g ≡ 3 + j → j < 5 → get_or (joined t x f) (8 * x + g) 0 ≡ get_or row j 0
  unfolding joined row
  new g j e h = let z : 8 * x + g ≡ 8 * x + 3 + j = omega arith in ap (λ i. get_or (joined t x f) i 0) z ∙ sets-inside row t (8 * x + 3) j h (omega arith)

  pub joined-link : fail_at (joined t x f) x ≡ f
  unfolding row
  joined-link = new 3 0 (omega arith) (omega arith)

  pub joined-bits : ((i : ℕ) → get_or t i 0 < 65536) → bits_at (joined t x f) x ≡ bit_or (bits_at t x) (bits_at t f)
  unfolding row
  joined-bits small =
      let p : ℕ → ℕ → ℕ = part_at t in
      ap₂ (λ a b. a + 65536 * b) (new 4 1 (omega arith) (omega arith)) (ap₂ (λ a b. a + 65536 * b) (new 5 2 (omega arith) (omega arith)) (ap₂ (λ a b. a + 65536 * b) (new 6 3 (omega arith) (omega arith)) (new 7 4 (omega arith) (omega arith))))
      ∙ sym (or-words (p x 0) (p x 1 + 65536 * (p x 2 + 65536 * p x 3)) (p f 0) (p f 1 + 65536 * (p f 2 + 65536 * p f 3)) (small (8 * x + 4)) (small (8 * f + 4))
      ∙ ap (λ n. bit_or (p x 0) (p f 0) + 65536 * n)
      (or-words (p x 1) (p x 2 + 65536 * p x 3) (p f 1) (p f 2 + 65536 * p f 3) (small (8 * x + 5)) (small (8 * f + 5))
      ∙ ap (λ n. bit_or (p x 1) (p f 1) + 65536 * n) (or-words (p x 2) (p x 3) (p f 2) (p f 3) (small (8 * x + 6)) (small (8 * f + 6)))))

-- ---- a table that differs past the first three entries of its states has the same trie

pub trie-same : {names : List (List ℕ)} {t t' : List ℕ} → Trie names t → length t' ≡ length t → ((y g : ℕ) → y < length names → g < 3 → get_or t' (8 * y + g) 0 ≡ get_or t (8 * y + g) 0) → Trie names t'
trie-same {names} {t} {t'} trie long kept =
    record {
      some = trie.some;
      room = omega (arith, trie.room);
      root = trie.root;
      once = trie.once;
      parent = λ x a h. let p = trie.parent x a h in record { parent = p.parent; before = p.before; child = on p.parent x h p.child };
      first = λ s h. rw (kept s 1 h (omega arith)) (latest s (omega arith) (trie.first s h));
      sibling = λ s x h a k f. rw (kept x 2 k (omega arith)) (latest s (omega arith) (trie.sibling s x h a k (back s x k f)));
    }
  where
    letter : (y : ℕ) → y < length names → letter_at t' y ≡ letter_at t y
    letter y h = letter-kept t t' y (kept y 0 h (omega arith))

    on : (s y : ℕ) → y < length names → Child names t s y → Child names t' s y
    on s y h f = f ∙ ap (λ d. name names s ++ (d ∷ [])) (sym (letter y h))

    back : (s y : ℕ) → y < length names → Child names t' s y → Child names t s y
    back s y h f = f ∙ ap (λ d. name names s ++ (d ∷ [])) (letter y h)

    latest : (s : ℕ) {top x : ℕ} → top ≤ length names → Latest (Child names t s) top x → Latest (Child names t' s) top x
    latest s {top} {x} h l =
        let b : x < top = l.below in
        record { below = l.below; here = λ a. on s x (omega arith) (l.here a); none = λ y a b f. l.none y a b (back s y (omega arith) f) }
