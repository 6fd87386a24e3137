-- `fold::each_folded`: by whatever fold the closure is, the target has received the first i folded letters.
use Rattle.std.proofs.Common.{◌≡◌, ℕ, ◌<◌, map, take}
use Rattle.matching.specs.Received.{received}
use Rattle.fold.proofs.each_folded.Given as goal

abbrev pub invariant-loop-i : goal.invariant-loop-i
invariant-loop-i g l = (f : ℕ → ℕ) → ((x y : ℕ) → x < 256 → goal.F-post g l.fold x y → y ≡ f x) → l.target ≡ received l.initial.target (take l.i (map f l.source))
