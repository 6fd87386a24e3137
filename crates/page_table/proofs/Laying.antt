-- The entries of the letters before one are laid, and all of them fit the program's array. Assumes nothing.
use mathlib.Core.Path.{refl}
use Prim.Native.Nat.{ℕ, ◌+◌, ◌≤◌}
use native.Mathlib.Omega.{arith}
use native.Mathlib.Numerals.{add-one}
use mathlib.Core.List.{List, [], ◌∷◌}
use lib.ListN.{length}
use Rattle.fold.specs.Fold.{folded15}
use Rattle.finder_lines.specs.Lines.{decimal}
use Rattle.pieces.specs.Pieces.{put, put_all, Laid}
use Rattle.pieces.proofs.Laid.{laid_none, laid_one, laid_cons, laid_then}
use Rattle.page_table.specs.Entries.{after, entries}
use mathlib.Core.Path.{refl, ap}
use mathlib.Core.List.{List}
use Prim.Native.Nat.{ℕ, ◌≤◌}
use lib.ListN.{length, drop, replicate, length-append, length-replicate}
use borrow.Author.Tests.{leb-true}
use Rattle.pieces.specs.Pieces.{joined}
use Rattle.pieces.proofs.Laid.{laid-front}
use Rattle.page_table.specs.Entries.{entries}

-- none yet, and one entry more with what follows it
pub none_laid : (output : List ℕ) → Laid output 0 (put_all output 0 (entries 0))
unfolding entries
none_laid output = laid_none output 0

pub one_more : (output₀ : List ℕ) (letter : ℕ) {output output' output'' : List ℕ} {at at' at'' : ℕ} → Laid output at (put_all output₀ 0 (entries letter)) → Laid output' at' (put output at (decimal (folded15 letter)))
    → Laid output'' at'' (put output' at' (after letter ∷ [])) → Laid output'' at'' (put_all output₀ 0 (entries (letter + 1)))
unfolding entries
one_more output₀ letter {output} {output'} {at = at} {at' = at'} l d a =
    rw (add-one letter)
    (laid_then output₀ 0 (entries letter) (decimal (folded15 letter) ∷ (after letter ∷ []) ∷ []) l (laid_cons output at (decimal (folded15 letter)) ((after letter ∷ []) ∷ []) d (laid_one output' at' (after letter ∷ []) a)))

-- the bytes of all entries fit
pub all-fit : length (joined (entries 256)) ≤ 1024
unfolding joined entries
all-fit = leb-true (length (joined (entries 256))) 1024 refl

-- so what is laid out of them lies within the array
pub all-inside : {bytes : List ℕ} {end : ℕ} → Laid bytes end (put_all (replicate 1024 0) 0 (entries 256)) → end ≤ length bytes
all-inside l =
    let zeros : List ℕ = replicate 1024 0 in
    let front = laid-front (entries 256) zeros (omega (arith, all-fit, length-replicate {A = ℕ} 1024 0)) l in
    omega (arith, front.0, ap length front.1, length-append (joined (entries 256)) (drop (length (joined (entries 256))) zeros))
