-- The fail links and rows while they are made, over rising states. Assumes nothing.
use Rattle.std.proofs.Common.{◌≡◌, ℕ, ◌+◌, ◌-◌, ◌*◌, ◌^◌, ◌<◌, ◌≤◌, min, List, length, get_or, refl, sym, ap, subst, ◌∙◌, arith}
use Rattle.tries.specs.Tables.{fail_at}
use Rattle.tries.specs.Links.{joined, Linking, Failed}
use Rattle.tries.specs.Rows.{rows_from, Rows, Put, Classed, Rowable, Overlaid, base, Finished, Rowed, Making, Next}
use Rattle.tries.proofs.Marks.{joined-long}
use Rattle.tries.proofs.Filling.{fillable-same, rowable}
use Rattle.tries.proofs.Finishing.{making-rowed, making-linked, root-rowable, making-first}

-- the states below x have their links, and those of them below `count` their rows
pub record Passing (t₀ t : List ℕ) (w count n x : ℕ) : Type 0 where
  pub long : length t ≡ length t₀
  pub making : (ps names : List (List ℕ)) → Making ps names t₀ w count 1 1 → length names ≡ n → Making ps names t w count x (min x count)

-- what is known of the automaton as it begins
abbrev pub Begun : List ℕ → ℕ → ℕ → ℕ → Type 0
Begun t₀ w count n = (1 ≤ count) × ((ps : List (List ℕ)) × ((names : List (List ℕ)) × (Making ps names t₀ w count 1 1 × (length names ≡ n))))

pub passing_first : {t : List ℕ} {w count n : ℕ} → Begun t w count n → Passing t t w count n 1
passing_first {t} {w} {count} (some, _) =
    let z : 1 ≡ min 1 count = omega arith in
    record { long = refl; making = λ ps names m _. subst (λ (j : ℕ). Making ps names t w count 1 j) z m }

module _ {t₀ t : List ℕ} {w count n x : ℕ} (q : Begun t₀ w count n) (p : Passing t₀ t w count n x) where
  some-names : 1 ≤ n
  some-names = let m = q.1.1.1.0 in omega (arith, q.0, m.most, q.1.1.1.1)

  pub passing_done : n ≤ x → (1 ≤ n → x ≤ n) → (ps names : List (List ℕ)) → Making ps names t₀ w count 1 1 → length names ≡ n → Making ps names t w count n count
  passing_done a b ps names m e =
      let z : x ≡ n = let k = b some-names in omega arith in
      let r : min x count ≡ count = omega (arith, m.most) in
      subst (λ (j : ℕ). Making ps names t w count j count) z (subst (λ (j : ℕ). Making ps names t w count x j) r (p.making ps names m e))

module _ {t₀ t : List ℕ} {w count n x : ℕ} (q : Begun t₀ w count n) (p : Passing t₀ t w count n x) (above : 1 ≤ x) (h : x < n) {r : ℕ} (least : r ≡ min x count) where
  made : Making q.1.0 q.1.1.0 t w count x r
  made = let m = p.making q.1.0 q.1.1.0 q.1.1.1.0 q.1.1.1.1 in subst (λ (j : ℕ). Making q.1.0 q.1.1.0 t w count x j) (sym least) m

  inside : x < length q.1.1.0
  inside = omega (arith, q.1.1.1.1)

  pub passing_next : Next t w r x
  passing_next =
      let m = made in
      record { phrases = _; names = _; linking = m.linking; rows = m.rows; some = m.some; above = above; inside = inside; byte = m.fill.bytes x above inside }

  module _ {f : ℕ} (failed : (ps names : List (List ℕ)) → Linking ps names x t → Rows ps names w r t → x < length names → Failed ps names x f) where
    pub passing_join : (f < x) × ((x ≤ 65535) × (8 * x + 8 ≤ length t))
    passing_join =
        let m = made in
        ((failed _ _ m.linking m.rows inside).below, (omega (arith, inside, m.fill.few), omega (arith, inside, m.linking.linked.trie.room)))

    module _ {t₁ : List ℕ} (e : t₁ ≡ joined t x f) (words : (i : ℕ) → get_or t i 0 < 2 ^ 16) where
      long₁ : length t₁ ≡ length t
      long₁ = ap length e ∙ joined-long t x f passing_join.0 passing_join.1.1

      linked : (ps names : List (List ℕ)) → Making ps names t₀ w count 1 1 → length names ≡ n → Making ps names t₁ w count (x + 1) r
      linked ps names m z =
          let k = subst (λ (j : ℕ). Making ps names t w count x j) (sym least) (p.making ps names m z) in
          let h' : x < length names = omega arith in
          rw e (making-linked k above h' (failed ps names k.linking k.rows h') words)

      -- a state with no row
      pub passing_linked : count ≤ x → Passing t₀ t₁ w count n (x + 1)
      passing_linked o =
          let z : r ≡ min (x + 1) count = omega arith in
          record { long = long₁ ∙ p.long; making = λ ps names m d. subst (λ (j : ℕ). Making ps names t₁ w count (x + 1) j) z (linked ps names m d) }

      -- a state with a row
      module _ (o : x < count) where
        linked_row : (ps names : List (List ℕ)) → Making ps names t₀ w count 1 1 → length names ≡ n → Making ps names t₁ w count (x + 1) x
        linked_row ps names m d = let z : r ≡ x = omega arith in subst (λ (j : ℕ). Making ps names t₁ w count (x + 1) j) z (linked ps names m d)

        pub passing_base : (rows_from + (w * x + w) ≤ length t₁) × ((8 * x + 8 ≤ length t₁) × (1 ≤ x → fail_at t₁ x < x))
        passing_base =
            let m = linked_row q.1.0 q.1.1.0 q.1.1.1.0 q.1.1.1.1 in
            let k = rowable {s = x} m.fill o (omega arith) in
            (k.room, (omega (arith, k.trie.room, k.inside), λ a. m.fill.linked.falls x a (omega arith)))

        module _ {t₂ : List ℕ} (b : Put t₁ t₂ (rows_from + w * x) w (base t₁ w x)) where
          rowed : (ps names : List (List ℕ)) → Making ps names t₀ w count 1 1 → length names ≡ n → Rowable names t₂ w x
          rowed ps names m d = rowable (fillable-same (linked_row ps names m d).fill b.long (λ i k. b.outside i (λ a c. omega arith))) o (omega arith)

          pub passing_overlay : (names : List (List ℕ)) × Rowable names t₂ w x
          passing_overlay = (q.1.1.0, rowed q.1.0 q.1.1.0 q.1.1.1.0 q.1.1.1.1)

          pub passing_rowed : {t₃ : List ℕ} → length t₃ ≡ length t₂ → ((names : List (List ℕ)) → Rowable names t₂ w x → Overlaid names t₂ t₃ w x) → Passing t₀ t₃ w count n (x + 1)
          passing_rowed {t₃} k laid =
              let z : x + 1 ≡ min (x + 1) count = omega arith in
              record {
                long = k ∙ b.long ∙ long₁ ∙ p.long;
                making = λ ps names m₀ d.
                    let m = linked_row ps names m₀ d in
                    let y = making-rowed m.linking m.fill m.rows o (omega arith) m.most b (laid names (rowed ps names m₀ d)) in
                    subst (λ (j : ℕ). Making ps names t₃ w count (x + 1) j) z y;
              }

-- ---- the root's row, and all states after it

-- how many rows there are
abbrev pub Counted : ℕ → ℕ → ℕ → ℕ → Type 0
Counted room w n count = (count ≤ n) × ((w * count ≤ room) × (1 ≤ n → w ≤ room → 1 ≤ count))

module _ {t t₁ t₂ : List ℕ} {n w count : ℕ} (f : Finished t n) (m : Classed t t₁ n w) (q : Counted (length t₁ - 33032) w n count) (p : Put t₁ t₂ (rows_from + w * 0) w (base t₁ w 0)) where
  some-states : 1 ≤ n
  some-states = omega (arith, f.count, f.linking.linked.trie.some)

  some-row : 1 ≤ count
  some-row = q.1.1 some-states (omega (arith, m.long, m.few, f.few, f.room))

  room : 33032 + w * count ≤ length t₁
  room = omega (arith, m.long, q.1.0, f.room)

  rootable : {ps names : List (List ℕ)} → Linking ps names 1 t → length names ≡ n → Rowable names t₂ w 0
  rootable l e = root-rowable l e f.few f.bytes m room some-row p

  pub root_overlay : (names : List (List ℕ)) × Rowable names t₂ w 0
  root_overlay = (f.names, rootable f.linking f.count)

  module _ {t₃ : List ℕ} (o : (names : List (List ℕ)) → Rowable names t₂ w 0 → Overlaid names t₂ t₃ w 0) where
    first : {ps names : List (List ℕ)} → Linking ps names 1 t → length names ≡ n → Making ps names t₃ w count 1 1
    first {names = names} l e = making-first l e f.few f.bytes m room some-row p q.0 (o names (rootable l e))

    pub root_begun : Begun t₃ w count n
    root_begun = (some-row, (f.phrases, (f.names, (first f.linking f.count, f.count))))

    pub root_rowed : {t₄ : List ℕ} → ((ps names : List (List ℕ)) → Making ps names t₃ w count 1 1 → length names ≡ n → Making ps names t₄ w count n count)
        → (ps names : List (List ℕ)) → Linking ps names 1 t → length names ≡ n → Rowed ps names t₄ w count
    root_rowed all ps names l e = let z = all ps names (first l e) e in record { linking = rw (← e) at z.linking; rows = z.rows; some = z.some }
