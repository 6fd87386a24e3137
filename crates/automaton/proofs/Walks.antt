-- The laws of the walk: the phrases that end at a letter taken from the lowest bit up, and the letters one after another. Assumes nothing.
use mathlib.Core.Path.{◌≡◌, refl, sym, ap, ap₂, ◌∙◌}
use Prim.Native.Nat.{ℕ, suc, ◌+◌, ◌-◌, ◌^◌, ◌≤◌, ◌<◌}
use native.Mathlib.Omega.{arith}
use native.Mathlib.Numerals.{add-one}
use mathlib.Core.Bool.{true, ◌&&◌, not}
use mathlib.Core.List.{List, [], ◌∷◌, ◌++◌}
use lib.ListN.{length, get_or, take, drop, drop_of_length-le, length-take}
use lib.Seq.{take-suc, drop-cons}
use lib.Dec.{eqb}
use lib.Bits.{bit_and}
use lib.Count.{count_trailing_zeros}
use lib.Pow.{pow_mono}
use Rattle.matching.proofs.CaseAnalysis.{both}
use Rattle.phrases.specs.Phrases.{ends_with, is_set, ended, numbers}
use Rattle.phrases.specs.States.{state, next}
use Rattle.phrases.specs.Counts.{Counts, set_bits, hit, hits, counts}
use Rattle.phrases.proofs.Bits.{Lowest, lowest, lowest-below}
use Rattle.phrases.proofs.States.{state-on, ended-state, bits_at, bits-lt, ends-short}
use Rattle.phrases.proofs.Endings.{numbers-length}
use Rattle.phrases.proofs.Counts.{lowest-first, no_bits, left-size, place-size, counts-on}
use Rattle.tries.specs.Tables.{name}
use Rattle.tries.specs.Rows.{Rowed, Standing}
use Rattle.tries.specs.Steps.{step_on}
use Rattle.tries.proofs.Steps.{step_is, step-ended}
use Rattle.automaton.specs.Walk.{Counters, Ahead}
use Rattle.automaton.specs.Locate.{Counted}

-- ---- all phrases whose bits are set

-- the bits in b are still to be taken
pub record Taking (bits end : ℕ) (lens left₀ place₀ left place : List ℕ) (b : ℕ) : Type 0 where
  pub below : b < 2 ^ length lens
  pub lefts : length left ≡ length lens
  pub places : length place ≡ length lens
  pub due : (k : ℕ) → is_set b k ≡ true → is_set bits k ≡ true
  pub same : hits end lens (set_bits b) (record { left = left; place = place }) ≡ hits end lens (set_bits bits) (record { left = left₀; place = place₀ })

pub taking_done : {bits end b : ℕ} {lens left₀ place₀ left place : List ℕ} → Taking bits end lens left₀ place₀ left place b → b ≤ 0
    → record { left = left; place = place } ≡ hits end lens (set_bits bits) (record { left = left₀; place = place₀ })
unfolding hits
taking_done {bits} {end} {b} {lens} {left₀} {place₀} {left} {place} m h =
    let now : Counts = record { left = left; place = place } in
    let z : b ≡ 0 = omega arith in
    ap (λ ks. hits end lens ks now) (sym (ap set_bits z ∙ no_bits)) ∙ m.same

module _ {bits end b : ℕ} {lens left₀ place₀ left place : List ℕ} (p : Counters bits end lens left₀ place₀) (m : Taking bits end lens left₀ place₀ left place b) (some : 0 < b) where
  low : Lowest b (count_trailing_zeros 64 b)
  low = lowest 64 b some (omega (arith, m.below, pow_mono p.few))

  -- the lowest bit is that of a phrase, which is no longer than what was read
  pub taking_bit : count_trailing_zeros 64 b < length lens
  taking_bit = lowest-below (length lens) low m.below

  pub taking_short : get_or lens (count_trailing_zeros 64 b) 0 ≤ end
  taking_short = p.inside (count_trailing_zeros 64 b) taking_bit (m.due (count_trailing_zeros 64 b) low.set)

  pub taking_needs : (count_trailing_zeros 64 b < length left) × ((count_trailing_zeros 64 b < length place) × (end - get_or lens (count_trailing_zeros 64 b) 0 ≤ 4294967295))
  taking_needs = let k = taking_bit in (omega (arith, m.lefts), (omega (arith, m.places), omega (arith, p.small)))

  pub taking_next : {left' place' : List ℕ} → record { left = left'; place = place' } ≡ hit (count_trailing_zeros 64 b) (end - get_or lens (count_trailing_zeros 64 b) 0) (record { left = left; place = place })
      → Taking bits end lens left₀ place₀ left' place' (bit_and b (b - 1))
  unfolding hits
  taking_next h =
      let q : ℕ = count_trailing_zeros 64 b in
      let start : ℕ = end - get_or lens q 0 in
      let now : Counts = record { left = left; place = place } in
      let other : (k : ℕ) → is_set (bit_and b (b - 1)) k ≡ is_set b k && not (eqb k q) = λ k. ap (λ n. is_set n k) low.cleared ∙ low.others k in
      record {
        below = omega (arith, low.cleared, m.below);
        lefts = ap (λ c. length c.left) h ∙ left-size q start now ∙ m.lefts;
        places = ap (λ c. length c.place) h ∙ place-size q start now ∙ m.places;
        due = λ k e. m.due k (both (is_set b k) (not (eqb k q)) (sym (other k) ∙ e)).0;
        same =
            ap₂ (λ n c. hits end lens (set_bits n) c) low.cleared h ∙ ap (λ ks. hits end lens ks now) (sym (lowest-first b q low (omega (arith, taking_bit, p.few)))) ∙ m.same;
      }

-- ---- letter by letter

-- i letters of T were read, and s is the state: the rest of the walk goes on from there
pub record Walking (t : List ℕ) (w count : ℕ) (T lens left₀ place₀ left place : List ℕ) (s i : ℕ) : Type 0 where
  pub most : i ≤ length T
  pub lefts : length left ≡ length left₀
  pub places : length place ≡ length place₀
  pub same : counts i lens (numbers (step_on t w count) s (drop i T)) (record { left = left; place = place }) ≡ counts 0 lens (numbers (step_on t w count) 0 T) (record { left = left₀; place = place₀ })
  pub at : (ps names : List (List ℕ)) → Rowed ps names t w count → (s < length names) × (name names s ≡ state ps (take i T))

pub walking_start : (t : List ℕ) (w count : ℕ) (T lens left place : List ℕ) → Walking t w count T lens left place left place 0 0
unfolding state
walking_start t w count T lens left place = record { most = omega arith; lefts = refl; places = refl; same = refl; at = λ ps names d. let l = d.linking.linked.trie in (l.some, l.root) }

-- all letters were read
pub walking_done : {t : List ℕ} {w count : ℕ} {T lens left₀ place₀ left place : List ℕ} {s i : ℕ} → Walking t w count T lens left₀ place₀ left place s i → length T ≤ i
    → Counted (numbers (step_on t w count) 0 T) lens left₀ place₀ i left place
unfolding numbers counts
walking_done {t} {w} {count} {T} {lens} {left₀} {place₀} {left} {place} {s} {i} v h =
    record {
      steps = omega (arith, v.most, numbers-length (step_on t w count) 0 T);
      comes = ap (λ l. counts i lens (numbers (step_on t w count) s l) (record { left = left; place = place })) (sym (drop_of_length-le T h)) ∙ v.same;
    }

-- the letters read, with one more
one_more : (T : List ℕ) (i : ℕ) → i < length T → take (suc i) T ≡ take i T ++ (get_or T i 0 ∷ [])
one_more T i h = take-suc T i 0 h

module _ {t T left₀ place₀ left place lens : List ℕ} {w count s i : ℕ} (p : Ahead t w count T lens left₀ place₀) (v : Walking t w count T lens left₀ place₀ left place s i) where
  pub walking_stands : Standing t w count s
  walking_stands = record { phrases = p.phrases; names = p.names; rowed = p.rowed; inside = (v.at p.phrases p.names p.rowed).0 }

  module _ (h : i < length T) (byte : get_or T i 0 < 256) {s' e : ℕ} (read : (s' ≡ (step_on t w count s (get_or T i 0)).state) × (e ≡ (step_on t w count s (get_or T i 0)).ended)) where
    -- the number is that of the phrases that end with the letter
    number : e ≡ ended p.phrases (take (suc i) T)
    number =
        let ps : List (List ℕ) = p.phrases in
        let a = v.at ps p.names p.rowed in
        read.1 ∙ step-ended p.rowed s (get_or T i 0) a.0 byte ∙ ap (λ n. ended ps (next ps n (get_or T i 0))) a.1 ∙ ap (ended ps) (sym (state-on ps (take i T) (get_or T i 0)))
        ∙ ended-state ps (take i T ++ (get_or T i 0 ∷ [])) ∙ ap (ended ps) (sym (one_more T i h))

    pub walking_counters : Counters e (i + 1) lens left place
    walking_counters =
        let ps : List (List ℕ) = p.phrases in
        let m = p.lens-of in
        rw (add-one i) (record {
          few = p.few;
          lefts = v.lefts ∙ p.lefts;
          places = v.places ∙ p.places;
          known = rw (number, m.each) (bits-lt (ends_with (take (suc i) T)) ps);
          inside = λ k a f.
              let a' : k < length ps = omega (arith, m.each) in
              let ends : is_set e k ≡ ends_with (take (suc i) T) (get_or ps k []) = ap (λ n. is_set n k) number ∙ bits_at (ends_with (take (suc i) T)) ps k a' in
              omega (arith, m.is k a', ends-short (get_or ps k []) (take (suc i) T) (sym ends ∙ f), length-take (suc i) T);
          small = omega (arith, p.small);
        })

    pub walking_next : {left' place' : List ℕ} → length left' ≡ length left → length place' ≡ length place
        → record { left = left'; place = place' } ≡ hits (i + 1) lens (set_bits e) (record { left = left; place = place }) → Walking t w count T lens left₀ place₀ left' place' s' (i + 1)
    unfolding numbers
    walking_next {left'} {place'} lefts places d =
        let k : suc i ≡ i + 1 = omega arith in
        let now : Counts = record { left = left; place = place } in
        let here : numbers (step_on t w count) s (drop i T) ≡ e ∷ numbers (step_on t w count) s' (drop (suc i) T) =
        ap (numbers (step_on t w count) s) (drop-cons T i 0 h) ∙ ap₂ (λ x y. x ∷ numbers (step_on t w count) y (drop (suc i) T)) (sym read.1) (sym read.0) in
        rw (← k) (record {
          most = h;
          lefts = lefts ∙ v.lefts;
          places = places ∙ v.places;
          same =
              ap (λ c. counts (suc i) lens (numbers (step_on t w count) s' (drop (suc i) T)) c) (rw (← k) at d) ∙ sym (counts-on i lens e (numbers (step_on t w count) s' (drop (suc i) T)) now)
              ∙ ap (λ es. counts i lens es now) (sym here) ∙ v.same;
          at = λ ps names r.
              let a = v.at ps names r in
              let n = step_is r s (get_or T i 0) a.0 byte in
              rw read.0 (n.inside, n.is ∙ ap (λ n. next ps n (get_or T i 0)) a.1 ∙ sym (state-on ps (take i T) (get_or T i 0)) ∙ ap (state ps) (sym (one_more T i h)));
        })
