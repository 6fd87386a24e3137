-- The fields of a list's numbers, one by one. Assumes nothing.
use mathlib.Core.Path.{◌≡◌, refl, sym, ap, subst, ◌∙◌}
use Prim.Native.Nat.{ℕ, zero, suc, ◌+◌, ◌<◌, min}
use native.Mathlib.Numerals.{add-one}
use native.Mathlib.Omega.{arith}
use mathlib.Core.List.{List, [], ◌∷◌, ◌++◌, map}
use lib.ListN.{length, get_or, take, length-take}
use lib.Seq.{take_all}
use Rattle.matching.specs.Received.{received}
use Rattle.matching.proofs.Received.{received-first}
use Rattle.std.proofs.lemmas.List.{get_or-take}
use Rattle.pieces.specs.Pieces.{put, put_all, Laid}
use Rattle.pieces.proofs.Laid.{laid_none, laid_one, laid_then}
use Rattle.finder_lines.specs.Lines.{field, fields}

-- the fields of one number more, and of all
pub fields-next : (i : ℕ) (list : List ℕ) → i < length list → fields (suc i) list ≡ fields i list ++ (field (get_or list i 0) ∷ [])
unfolding fields
fields-next i [] h = absurd (omega arith)
fields-next zero (x ∷ list) h = refl
fields-next (suc i) (x ∷ list) h = ap (λ (l : List (List ℕ)). field x ∷ l) (fields-next i list (omega arith))

pub fields-none : (list : List ℕ) → fields 0 list ≡ []
unfolding fields
fields-none list = refl

fields-min : (count : ℕ) (list : List ℕ) → fields (min count (length list)) list ≡ fields count list
unfolding fields
fields-min zero list = let e : min 0 (length list) ≡ 0 = omega arith in rw e
fields-min (suc count) [] = let e : min (suc count) 0 ≡ 0 = omega arith in rw e
fields-min (suc count) (x ∷ list) = let e : min (suc count) (suc (length list)) ≡ suc (min count (length list)) = omega arith in rw e (ap (λ (l : List (List ℕ)). field x ∷ l) (fields-min count list))

-- ---- the fields laid out one after another

-- those of the first i numbers
pub record FieldsLaid (buffer₀ : List ℕ) (at : ℕ) (list buffer : List ℕ) (next i : ℕ) : Type 0 where
  pub laid : Laid buffer next (put_all buffer₀ at (fields i list))

pub laid_none_yet : (buffer : List ℕ) (at : ℕ) (list : List ℕ) → FieldsLaid buffer at list buffer at 0
laid_none_yet buffer at list = record { laid = rw (fields-none list) (laid_none buffer at) }

module _ {buffer₀ : List ℕ} {at : ℕ} {list buffer : List ℕ} {next i : ℕ} (f : FieldsLaid buffer₀ at list buffer next i) where
  -- one more, where n numbers of the list are gone through
  pub laid_one_more : (n : ℕ) {buffer' : List ℕ} {next' : ℕ} → i < length (take n list) → Laid buffer' next' (put buffer next (field (get_or (take n list) i 0))) → FieldsLaid buffer₀ at list buffer' next' (i + 1)
  laid_one_more n h l =
      let inside : i < length list = omega (arith, h, length-take n list) in
      let same : get_or (take n list) i 0 ≡ get_or list i 0 = get_or-take n list i 0 (omega (arith, h, length-take n list)) in
      record { laid = rw (add-one i, fields-next i list inside) (laid_then buffer₀ at (fields i list) (field (get_or list i 0) ∷ []) f.laid (laid_one buffer next (field (get_or list i 0)) (rw same at l))) }

  -- and all of them
  pub laid_all_of : (count : ℕ) → i ≡ min count (length list) → Laid buffer next (put_all buffer₀ at (fields count list))
  laid_all_of count e = subst (λ (x : List (List ℕ)). Laid buffer next (put_all buffer₀ at x)) (ap (λ (n : ℕ). fields n list) e ∙ fields-min count list) f.laid

-- of a list that received values, as many as there are values: the fields of those that it had places for
pub fields-received : (list values : List ℕ) → fields (length values) (received list values) ≡ fields (length values) (take (length list) values)
unfolding fields
fields-received list values = ap (map field) (received-first list values ∙ sym (take_all (length values) (take (length list) values) (omega (arith, length-take (length list) values))))
