-- A lent list that receives values one by one, for entries of any type: the law by which one more value is received is `received_more`. Assumes nothing.
use mathlib.Core.Path.{◌≡◌, refl, sym, ap, ap₂, ◌∙◌}
use Prim.Native.Nat.{ℕ, zero, suc, ◌+◌, ◌≤◌}
use native.Mathlib.Omega.{arith}
use native.Mathlib.Numerals.{add-one}
use mathlib.Core.List.{List, [], ◌∷◌, ◌++◌, append-nil, append_assoc}
use lib.ListN.{length, set, replicate, length-replicate, length-append, length-take, length-drop, take, drop, take-append-drop}
use lib.Seq.{take-nil, take_all, drop-nil, drop-length}
use Rattle.matching.specs.Received.{received, received_from}

module _ {ℓ} {A : Type ℓ} where
  -- the rule by the list's and the values' first entries
  pub received_none : (list : List A) → received list [] ≡ list
  unfolding received
  received_none list = ap (λ (l : List A). l ++ list) (take-nil (length list))

  pub received-cons : (y x : A) (list values : List A) → received (y ∷ list) (x ∷ values) ≡ x ∷ received list values
  unfolding received
  received-cons y x list values = refl

  pub received-full : (values : List A) → received [] values ≡ []
  unfolding received
  received-full [] = refl
  received-full (x ∷ values) = refl

  -- one value more is set at the place after those received, or nowhere where the list ends before it
  pub received_more : (list values : List A) (x : A) → set (received list values) (length values) x ≡ received list (values ++ x ∷ [])
  received_more [] values x = rw (received-full values) (sym (received-full (values ++ x ∷ [])))
  received_more (y ∷ list) [] x = rw (received_none (y ∷ list)) (sym (received-cons y x list [] ∙ ap (λ (l : List A). x ∷ l) (received_none list)))
  received_more (y ∷ list) (v ∷ values) x = rw (received-cons y v list values) (ap (λ (l : List A). v ∷ l) (received_more list values x) ∙ sym (received-cons y v list (values ++ x ∷ [])))

  -- and three more are set one after another
  pub received-three : (list values : List A) (at : ℕ) (a b c : A) → length values ≡ at → set (set (set (received list values) at a) (at + 1) b) (at + 2) c ≡ received list (values ++ a ∷ b ∷ c ∷ [])
  received-three list values at a b c e =
      let one : List A = values ++ a ∷ [] in
      let two : List A = one ++ b ∷ [] in
      let first : set (received list values) at a ≡ received list one = ap (λ (k : ℕ). set (received list values) k a) (sym e) ∙ received_more list values a in
      let size : at + 1 ≡ length one = omega (arith, length-append values (a ∷ [])) in
      let second : set (received list one) (at + 1) b ≡ received list two = ap (λ (k : ℕ). set (received list one) k b) size ∙ received_more list one b in
      let size₂ : at + 2 ≡ length two = omega (arith, length-append one (b ∷ []), length-append values (a ∷ [])) in
      ap (λ (l : List A). set (set l (at + 1) b) (at + 2) c) first ∙ ap (λ (l : List A). set l (at + 2) c) second ∙ ap (λ (k : ℕ). set (received list two) k c) size₂ ∙ received_more list two c
      ∙ ap (received list) (append_assoc one (b ∷ []) (c ∷ []) ∙ append_assoc values (a ∷ []) (b ∷ c ∷ []))

  -- a list of no entries receives nothing anywhere
  received-nowhere : (at : ℕ) (values : List A) → received_from at [] values ≡ []
  received-nowhere at values = ap₂ (λ (a b : List A). a ++ received b values) (take-nil at) (drop-nil at) ∙ received-full values

  -- more values are received behind those that the list received
  received-then : (list values more : List A) → received_from (length values) (received list values) more ≡ received list (values ++ more)
  received-then [] values more =
      ap (λ (l : List A). received_from (length values) l more) (received-full values) ∙ received-nowhere (length values) more ∙ sym (received-full (values ++ more))
  received-then (y ∷ list) [] more = ap (λ (l : List A). received l more) (received_none (y ∷ list))
  received-then (y ∷ list) (x ∷ values) more =
      ap (λ (l : List A). received_from (suc (length values)) l more) (received-cons y x list values) ∙ ap (λ (l : List A). x ∷ l) (received-then list values more)
      ∙ sym (received-cons y x list (values ++ more))

  -- behind the first `at` entries: none, and one and then the others
  pub received-over : (at : ℕ) (list : List A) → received_from at list [] ≡ list
  received-over at list = ap (λ (l : List A). take at list ++ l) (received_none (drop at list)) ∙ take-append-drop at list

  pub received-one : (at : ℕ) (list : List A) (x : A) (values : List A) → received_from at list (x ∷ values) ≡ received_from (suc at) (set list at x) values
  received-one at [] x values = received-nowhere at (x ∷ values) ∙ sym (received-full values)
  received-one zero (y ∷ list) x values = received-cons y x list values
  received-one (suc at) (y ∷ list) x values = ap (λ (l : List A). y ∷ l) (received-one at list x values)

  -- values, and then more
  pub received-on : (at n : ℕ) (list values more : List A) → n ≡ at + length values → received_from n (received_from at list values) more ≡ received_from at list (values ++ more)
  received-on zero n list values more e = let same : n ≡ length values = omega arith in rw same (received-then list values more)
  received-on (suc at) n [] values more e = ap (λ (l : List A). received_from n l more) (received-full values) ∙ received-nowhere n more ∙ sym (received-full (values ++ more))
  received-on (suc at) zero (y ∷ list) values more e = absurd (omega arith)
  received-on (suc at) (suc n) (y ∷ list) values more e = ap (λ (l : List A). y ∷ l) (received-on at n list values more (omega arith))

  -- the list keeps its length
  pub length-received : (list values : List A) → length (received list values) ≡ length list
  unfolding received
  length-received list values = simp (length-append, length-take, length-drop) (omega arith)

  -- values past the list's length play no part
  pub received-enough : (list values : List A) (k : ℕ) → length list ≤ k → received list (take k values) ≡ received list values
  received-enough [] values k h = received-full (take k values) ∙ sym (received-full values)
  received-enough (y ∷ list) [] k h = ap (received (y ∷ list)) (take-nil k)
  received-enough (y ∷ list) (x ∷ values) zero h = absurd (omega arith)
  received-enough (y ∷ list) (x ∷ values) (suc k) h = received-cons y x list (take k values) ∙ ap (λ (l : List A). x ∷ l) (received-enough list values k (omega arith)) ∙ sym (received-cons y x list values)

  -- the list's front, as long as the values, holds those that it received
  pub received-first : (list values : List A) → take (length values) (received list values) ≡ take (length list) values
  received-first [] values = ap (take (length values)) (received-full values) ∙ take-nil (length values)
  received-first (y ∷ list) [] = refl
  received-first (y ∷ list) (x ∷ values) = ap (take (suc (length values))) (received-cons y x list values) ∙ ap (λ (l : List A). x ∷ l) (received-first list values)

  -- a list long enough for all values has them at its front
  pub received-whole : (list values : List A) → length values ≤ length list → take (length values) (received list values) ≡ values
  received-whole list values h = received-first list values ∙ take_all (length list) values h

  pub received-front : (list values : List A) → length values ≤ length list → received list values ≡ values ++ drop (length values) list
  unfolding received
  received-front list values h = ap (λ (l : List A). l ++ drop (length values) list) (take_all (length list) values h)

-- ---- a list made one value throughout, entry by entry

module _ {ℓ} {A : Type ℓ} (a : A) where
  replicate_more : (n : ℕ) → replicate n a ++ a ∷ [] ≡ replicate (suc n) a
  replicate_more zero = refl
  replicate_more (suc n) = ap (λ (l : List A). a ∷ l) (replicate_more n)

  -- none yet, one more, and all
  pub cleared-none : (list : List A) → list ≡ received list (replicate 0 a)
  cleared-none list = sym (received_none list)

  pub cleared_more : (list : List A) (i : ℕ) → set (received list (replicate i a)) i a ≡ received list (replicate (i + 1) a)
  cleared_more list i =
      ap (λ (k : ℕ). set (received list (replicate i a)) k a) (sym (length-replicate i a)) ∙ received_more list (replicate i a) a
      ∙ ap (received list) (replicate_more i ∙ ap (λ (k : ℕ). replicate k a) (sym (add-one i)))

  pub cleared-all : (list : List A) (i : ℕ) → i ≡ length list → received list (replicate i a) ≡ replicate (length list) a
  cleared-all list i e =
      let size : length (replicate i a) ≡ length list = length-replicate i a ∙ e in
      received-front list (replicate i a) (omega (arith, size))
      ∙ ap (λ (k : ℕ). replicate i a ++ drop k list) size
      ∙ ap (λ (l : List A). replicate i a ++ l) (drop-length list)
      ∙ append-nil (replicate i a)
      ∙ ap (λ (k : ℕ). replicate k a) e
