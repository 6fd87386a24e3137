-- What it is to lay pieces out in a buffer, one after another.
use Rattle.std.specs.Prelude.{◌≡◌, ℕ, ◌+◌, cond, List, [], ◌∷◌, ◌++◌, length, take, drop, leb}

-- the bytes of all pieces, one after another
unfoldable pub joined : List (List ℕ) → List ℕ
joined [] = []
joined (piece ∷ pieces) = piece ++ joined pieces

-- a buffer, and where its next piece goes
pub record Filled : Type 0 where
  pub bytes : List ℕ
  pub next : ℕ

-- a piece put into a buffer from `at` on, the rest kept; where it does not fit, nothing
unfoldable pub put : List ℕ → ℕ → List ℕ → Filled
put buffer at piece =
    cond (leb (at + length piece) (length buffer))
    (record { bytes = take at buffer ++ piece ++ drop (at + length piece) buffer; next = at + length piece })
    (record { bytes = buffer; next = at })

-- pieces, one after another
unfoldable pub put_all : List ℕ → ℕ → List (List ℕ) → Filled
unfolding put
put_all buffer at [] = record { bytes = buffer; next = at }
put_all buffer at (piece ∷ pieces) = put_all (put buffer at piece).bytes (put buffer at piece).next pieces

-- a buffer was left so, and this was given back
pub record Laid (buffer : List ℕ) (r : ℕ) (filled : Filled) : Type 0 where
  pub bytes : buffer ≡ filled.bytes
  pub next : r ≡ filled.next
