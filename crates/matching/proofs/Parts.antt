-- Parts of a list as a lent part is given: from a place on, up to the end or up to another place. Assumes nothing.
use mathlib.Core.Path.{◌≡◌, sym, ap, ◌∙◌}
use Prim.Native.Nat.{ℕ, zero, suc, ◌-◌}
use native.Mathlib.Omega.{arith}
use mathlib.Core.List.{List, [], ◌∷◌}
use lib.ListN.{length, take, drop, length-drop}
use lib.Seq.{take-nil, take_all}

-- the part from a place on, as `&l[k..]` gives it, is what is left there
abbrev pub from : List ℕ → ℕ → List ℕ
from l k = take (length l - k) (drop k l)

pub from_is : (l : List ℕ) (k : ℕ) → from l k ≡ drop k l
from_is l k = take_all (length l - k) (drop k l) (omega (arith, length-drop k l))

pub from-twice : (l : List ℕ) (k j : ℕ) → from (from l k) j ≡ drop j (drop k l)
from-twice l k j = from_is (from l k) j ∙ ap (λ (x : List ℕ). drop j x) (from_is l k)

-- the part from a place up to another, as `&l[f..t]` gives it
pub part-is : (f t : ℕ) (l : List ℕ) → take (t - f) (drop f l) ≡ drop f (take t l)
part-is zero t l = let whole : t - 0 ≡ t = omega arith in rw whole
part-is (suc f) t [] = take-nil (t - suc f) ∙ sym (ap (drop (suc f)) (take-nil t))
part-is (suc f) zero (x ∷ l) = let none : 0 - suc f ≡ 0 = omega arith in rw none
part-is (suc f) (suc t) (x ∷ l) = let less : suc t - suc f ≡ t - f = omega arith in rw less (part-is f t l)
