-- The laws of entries that are written one after another. Assumes nothing.
use Rattle.std.proofs.Common.{◌≡◌, ℕ, zero, suc, ◌+◌, ◌-◌, ◌*◌, ◌<◌, ◌≤◌, List, [], ◌∷◌, ◌++◌, length, get_or, take, drop, length-drop, set, refl, sym, ap, ap₂, ◌∙◌, arith, replicate}
use Rattle.std.specs.Int.Bits.{bit_or}
use Rattle.std.proofs.Math.Nat.{add-zero}
use Rattle.std.proofs.Math.Seq.{length-take-le, length-sets}
use Rattle.std.proofs.lemmas.List.{append_assoc, length-replicate, get_or-replicate, get_or-take, get_or-drop, set-append_left, set-append_right}
use Rattle.std.proofs.lemmas.List.Edits.{sets, sets-eq, paste_all}
use Rattle.std.proofs.lemmas.Slice.{put_mid-paste}
use borrow.Rule.Slice.PartMut.{put_mid}
use Rattle.tries.specs.Links.{part_at, joined}
use borrow.Author.Tests.{ne_eqb}
use Rattle.tries.specs.Tables.{fail_at}
use Rattle.tries.specs.Rows.{Put, base}
use Rattle.tries.proofs.Growth.{sets-outside, sets-inside}

-- a part that was copied is its entries, one by one
pub put_sets : (t vs ys : List ℕ) (i k : ℕ) → ys ≡ vs → k ≡ length vs → i + k ≤ length t → put_mid i k t ys ≡ sets t i vs
put_sets t vs ys i k e n h =
    put_mid-paste i k t ys vs k e refl n ∙ paste_all t i vs k n ∙ sym (append_assoc (take i t) vs (drop (i + k) t))
    ∙ ap (λ m. take i t ++ vs ++ drop (i + m) t) n ∙ sym (sets-eq vs t i (omega arith))

-- a part by a rule
part_put : (t ys : List ℕ) (i k : ℕ) (rule : ℕ → ℕ) → k ≡ length ys → i + k ≤ length t → ((j : ℕ) → j < k → get_or ys j 0 ≡ rule j) → Put t (put_mid i k t ys) i k rule
part_put t ys i k rule n h is =
    rw (put_sets t ys ys i k refl n h) (record {
      long = length-sets t i ys;
      within = λ j l. sets-inside ys t i j (omega arith) (omega arith) ∙ is j l;
      outside = λ j o. sets-outside ys t i j (λ a b. o a (omega arith));
    })

-- a part that was filled with zeros
pub fill_put : (t ys : List ℕ) (i k : ℕ) → ys ≡ replicate (length (take k (drop i t))) 0 → i + k ≤ length t → Put t (put_mid i k t ys) i k (λ j. 0)
fill_put t ys i k e h =
    let long : length (take k (drop i t)) ≡ k = length-take-le k (drop i t) (omega (arith, length-drop i t)) in
    let zeros : ys ≡ replicate k 0 = e ∙ ap (λ m. replicate m 0) long in
    part_put t ys i k (λ j. 0) (sym (length-replicate k 0) ∙ sym (ap length zeros)) h (λ j l. ap (λ z. get_or z j 0) zeros ∙ get_or-replicate k j 0 0 l)

-- a part that was copied from before it
pub copy_put : (t front back ys : List ℕ) (from i k m : ℕ) → front ≡ take i t → back ≡ drop i t → ys ≡ take m (drop from front) → m ≡ k → from + k ≤ i → i + k ≤ length t
    → Put t (front ++ (ys ++ drop k back)) i k (λ j. get_or t (from + j) 0)
copy_put t front back ys from i k m e f g n below h =
    let zs : List ℕ = take k (drop from (take i t)) in
    let is : ys ≡ zs = g ∙ ap (λ m. take m (drop from front)) n ∙ ap (λ l. take k (drop from l)) e in
    let long : length zs ≡ k = length-take-le k (drop from (take i t)) (omega (arith, length-drop from (take i t), length-take-le i t (omega arith))) in
    rw (e, f, is) (part_put t zs i k (λ j. get_or t (from + j) 0) (sym long) h
    (λ j l. get_or-take k (drop from (take i t)) j 0 l ∙ get_or-drop from (take i t) j 0 ∙ get_or-take i t (from + j) 0 (omega arith)))

-- an entry of a part
part_set : (t ys : List ℕ) (i k j m v : ℕ) → i ≤ length t → j < length ys → m ≡ i + j → set (put_mid i k t ys) m v ≡ put_mid i k t (set ys j v)
part_set t ys i k j m v h l e =
    let n : length (take i t) ≡ i = length-take-le i t h in
    let d : m - i ≡ j = omega arith in
    set-append_right (take i t) (ys ++ drop k (drop i t)) i m v n (omega arith) ∙ ap (λ d. take i t ++ set (ys ++ drop k (drop i t)) d v) d ∙ ap (λ l. take i t ++ l) (set-append_left ys (drop k (drop i t)) j v l)

-- the eight entries of a new state: zeros, and then the first, the third and the fourth
pub state_sets : (t ys : List ℕ) (i k c b f : ℕ) → ys ≡ replicate (length (take k (drop i t))) 0 → k ≡ 8 → i + 8 ≤ length t → set (set (set (put_mid i k t ys) i c) (i + 2) b) (i + 3) f ≡ sets t i (c ∷ 0 ∷ b ∷ f ∷ 0 ∷ 0 ∷ 0 ∷ 0 ∷ [])
state_sets t ys i k c b f e n h =
    let long : length (take k (drop i t)) ≡ 8 = length-take-le k (drop i t) (omega (arith, length-drop i t)) ∙ n in
    let zeros : ys ≡ replicate 8 0 = e ∙ ap (λ m. replicate m 0) long in
    ap (λ z. set (set (set (put_mid i k t z) i c) (i + 2) b) (i + 3) f) zeros
    ∙ ap (λ l. set (set l (i + 2) b) (i + 3) f) (part_set t (replicate 8 0) i k 0 i c (omega arith) (omega arith) (omega arith))
    ∙ ap (λ l. set l (i + 3) f) (part_set t (set (replicate 8 0) 0 c) i k 2 (i + 2) b (omega arith) (omega arith) refl)
    ∙ part_set t (set (set (replicate 8 0) 0 c) 2 b) i k 3 (i + 3) f (omega arith) (omega arith) refl
    ∙ put_sets t (c ∷ 0 ∷ b ∷ f ∷ 0 ∷ 0 ∷ 0 ∷ 0 ∷ []) _ i k refl n (omega arith)

-- one more
sets-more : (l : List ℕ) (i : ℕ) (vs : List ℕ) (k : ℕ) → k < length vs → set (sets l i (take k vs)) (i + k) (get_or vs k 0) ≡ sets l i (take (suc k) vs)
sets-more l i [] k h = absurd (omega arith)
sets-more l i (v ∷ vs) zero h = rw (add-zero i) refl
sets-more l i (v ∷ vs) (suc k) h = let e : i + suc k ≡ suc i + k = omega arith in rw e (sets-more (set l i v) (suc i) vs k (omega arith))

-- ---- the bits of a state joined to those of another

-- all four parts
abbrev parts : List ℕ → ℕ → ℕ → List ℕ
parts t x f = bit_or (part_at t x 0) (part_at t f 0) ∷ bit_or (part_at t x 1) (part_at t f 1) ∷ bit_or (part_at t x 2) (part_at t f 2) ∷ bit_or (part_at t x 3) (part_at t f 3) ∷ []

part-is : (t : List ℕ) (x f m : ℕ) → m < 4 → get_or (parts t x f) m 0 ≡ bit_or (part_at t x m) (part_at t f m)
part-is t x f zero h = refl
part-is t x f (suc zero) h = refl
part-is t x f (suc (suc zero)) h = refl
part-is t x f (suc (suc (suc zero))) h = refl
part-is t x f (suc (suc (suc (suc m)))) h = absurd (omega arith)

-- f is the fail link of x, and the parts before entry j are joined
pub record Joining (t : List ℕ) (x f : ℕ) (t' : List ℕ) (j : ℕ) : Type 0 where
  pub most : j ≤ 8
  pub is : t' ≡ sets t (8 * x + 3) (f ∷ take (j - 4) (parts t x f))

pub joining_first : (t : List ℕ) (x f : ℕ) → Joining t x f (set t (8 * x + 3) f) 4
joining_first t x f = record { most = omega arith; is = refl }

module _ {t : List ℕ} {x f : ℕ} {t' : List ℕ} {j : ℕ} (m : Joining t x f t' j) where
  pub joining_next : f < x → 4 ≤ j → j < 8 → Joining t x f (set t' (8 * x + j) (bit_or (get_or t' (8 * x + j) 0) (get_or t' (8 * f + j) 0))) (j + 1)
  joining_next below some h =
      let k : ℕ = j - 4 in
      let vs : List ℕ = f ∷ take k (parts t x f) in
      let long : length vs ≡ suc k = ap suc (length-take-le k (parts t x f) (omega arith)) in
      let same : (i : ℕ) → (8 * x + 3 ≤ i → i < 8 * x + j → ⊥) → get_or t' i 0 ≡ get_or t i 0 =
      λ i o. ap (λ (l : List ℕ). get_or l i 0) m.is ∙ sets-outside vs t (8 * x + 3) i (λ a b. o a (omega arith)) in
      let here : 8 * x + j ≡ 8 * x + (4 + k) = omega arith in
      let there : 8 * f + j ≡ 8 * f + (4 + k) = omega arith in
      let v : bit_or (get_or t' (8 * x + j) 0) (get_or t' (8 * f + j) 0) ≡ get_or (parts t x f) k 0 =
      ap₂ bit_or (same (8 * x + j) (λ a b. omega arith) ∙ ap (λ i. get_or t i 0) here) (same (8 * f + j) (λ a b. omega arith) ∙ ap (λ i. get_or t i 0) there) ∙ sym (part-is t x f k (omega arith)) in
      record {
        most = omega arith;
        is =
            let e : 8 * x + j ≡ suc (8 * x + 3) + k = omega arith in
            let n : j + 1 - 4 ≡ suc k = omega arith in
            rw (n, v, e, m.is) (sets-more (set t (8 * x + 3) f) (suc (8 * x + 3)) (parts t x f) k (omega arith));
      }

  pub joining_done : 8 ≤ j → t' ≡ joined t x f
  unfolding joined
  joining_done h = let e : j ≡ 8 = omega (arith, m.most) in rw e at m.is

-- the entries of a row before the children are laid over it
pub based : (t : List ℕ) (w s k : ℕ) → (s ≡ 0 → ⊥) → get_or t (33032 + w * fail_at t s + k) 0 ≡ base t w s k
based t w s k n = let e : 33032 + w * fail_at t s + k ≡ 33032 + (w * fail_at t s + k) = omega arith in rw (ne_eqb s 0 n) (ap (λ i. get_or t i 0) e)
