-- A target that is filled letter by letter, by any fold: one letter more, and all that it can hold; and what holds after each letter (`Filling`), with its start, its step and its end. Assumes nothing.
use mathlib.Core.Path.{◌≡◌, sym, ap, ◌∙◌}
use Prim.Native.Nat.{ℕ, ◌+◌, ◌≤◌, ◌<◌, min}
use native.Mathlib.Omega.{arith}
use mathlib.Core.List.{List, [], ◌∷◌, ◌++◌, map}
use lib.ListN.{length, get_or, take, set, length-map}
use lib.Dec.{leb}
use borrow.Author.Tests.{leb-true, leb-false}
use Rattle.std.proofs.lemmas.List.{get_or-map, take_all, take_more, length-take-le}
use Rattle.matching.specs.Received.{received}
use Rattle.matching.proofs.CaseAnalysis.{by-test}
use Rattle.matching.proofs.Received.{received_none, received_more, received-enough, length-received}

module _ (f : ℕ → ℕ) (source target₀ : List ℕ) where
  abbrev values : List ℕ
  values = map f source

  -- one letter more
  pub letter-filled : {target : List ℕ} (i : ℕ) {v : ℕ} → i < length source → target ≡ received target₀ (take i values) → v ≡ f (get_or source i 0) → set target i v ≡ received target₀ (take (i + 1) values)
  letter-filled {target} i {v} h so_far e =
      let inside : i < length values = omega (arith, length-map source f) in
      let size : length (take i values) ≡ i = length-take-le i values (omega arith) in
      let last : v ≡ get_or values i 0 = e ∙ sym (get_or-map f source i 0 0 h) in
      ap (λ (t : List ℕ). set t i v) so_far
      ∙ ap (λ (k : ℕ). set (received target₀ (take i values)) k v) (sym size)
      ∙ received_more target₀ (take i values) v
      ∙ ap (received target₀) (ap (λ (x : ℕ). take i values ++ x ∷ []) last ∙ sym (take_more values i 0 inside))

  -- all that the target can hold
  pub all-filled : (end : ℕ) → end ≡ min (length source) (length target₀) → received target₀ (take end values) ≡ received target₀ values
  all-filled end e =
      by-test (λ _. received target₀ (take end values) ≡ received target₀ values) (leb (length target₀) end)
      (λ t. received-enough target₀ values end (leb-true (length target₀) end t))
      (λ t. ap (received target₀) (take_all end values (omega (arith, leb-false (length target₀) end t, length-map source f, e))))

-- the target has received the first i folded letters; it takes as many as both lengths allow
pub record Filling (f : ℕ → ℕ) (source target₀ : List ℕ) (end : ℕ) (target : List ℕ) (i : ℕ) : Type 0 where
  pub so_far : target ≡ received target₀ (take i (map f source))
  pub inside : i ≤ end
  pub whole : end ≡ min (length source) (length target₀)

pub filling-first : (f : ℕ → ℕ) (source target : List ℕ) {end : ℕ} → end ≡ min (length source) (length target) → Filling f source target end target 0
filling-first f source target e = record { so_far = sym (received_none target); inside = omega arith; whole = e }

module _ {f : ℕ → ℕ} {source target₀ : List ℕ} {end : ℕ} {target : List ℕ} {i : ℕ} (l : Filling f source target₀ end target i) where
  pub filling-length : length target ≡ length target₀
  filling-length = ap length l.so_far ∙ length-received target₀ (take i (map f source))

  -- one letter more
  pub filling-next : (v : ℕ) → i < end → v ≡ f (get_or source i 0) → Filling f source target₀ end (set target i v) (i + 1)
  filling-next v h e = record { so_far = letter-filled f source target₀ i (omega (arith, l.whole)) l.so_far e; inside = omega arith; whole = l.whole }

  -- all that the target can hold
  pub filling-over : end ≤ i → target ≡ received target₀ (map f source)
  filling-over h =
      let at : i ≡ end = omega (arith, l.inside) in
      l.so_far ∙ ap (λ (k : ℕ). received target₀ (take k (map f source))) at ∙ all-filled f source target₀ end l.whole
