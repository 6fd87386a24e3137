-- The double window's entries (document 01, "Double window"; source document 004): u is the text letter under the window's end, v the one m places on.
use Rattle.std.specs.Prelude.{ℕ, ◌-◌, ◌*◌, cond, List, length, eqb}
use Rattle.letter_tables.specs.BadCharacter.{last_in}

-- where P has the letter c at its last position j = q(c) + 1, it is in P, and it is P's last letter where j is m
abbrev pub last_of : List ℕ → ℕ → ℕ
last_of P c = last_in P (length P) c

-- by u alone: 0 if u is the last letter; else m - 1 - q(u) if u is in P; else m
unfoldable pub end_entry : List ℕ → ℕ → ℕ
unfolding last_in
end_entry P u = cond (eqb (last_of P u) (length P)) 0 (cond (eqb (last_of P u) 0) (length P) (length P - last_of P u))

-- by u and v: 0 if u is the last letter; else m - 1 - q(u) if u is in P; else 2m - 1 - q(v) if v is in P; else 2m
unfoldable pub double_entry : List ℕ → ℕ → ℕ → ℕ
unfolding last_in
double_entry P u v =
    cond (eqb (last_of P u) (length P)) 0
    (cond (eqb (last_of P u) 0)
    (cond (eqb (last_of P v) 0) (2 * length P) (2 * length P - last_of P v))
    (length P - last_of P u))
