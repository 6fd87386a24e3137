-- A child looked for among the children of a state, from the latest down. Assumes nothing.
use Rattle.std.proofs.Common.{◌≡◌, ℕ, ◌+◌, ◌*◌, ◌<◌, ◌≤◌, List, length, sym, ◌∙◌, arith}
use Rattle.tries.specs.Tables.{letter_at, sibling_at, Trie}
use Rattle.tries.specs.Steps.{child_from, child_of}
use Rattle.tries.proofs.Tries.{Searching, search-on}
use Rattle.tries.proofs.Steps.{child-next, child-found, child-none}

-- from state x on the child is found that is asked for
pub record Looking (t : List ℕ) (s c x : ℕ) : Type 0 where
  pub names : List (List ℕ)
  pub trie : Trie names t
  pub inside : s < length names
  pub searching : Searching names t s c x
  pub room : 8 * x + 8 ≤ length t
  pub same : child_of t s c ≡ child_from x t c x

looking : {t : List ℕ} {s c x : ℕ} {names : List (List ℕ)} → Trie names t → s < length names → Searching names t s c x → child_of t s c ≡ child_from x t c x → Looking t s c x
looking trie h k e = record { names = _; trie = trie; inside = h; searching = k; room = omega (arith, k.inside, trie.room); same = e }

module _ {t : List ℕ} {s c x : ℕ} (k : Looking t s c x) where
  pub looking_on : 0 < x → (letter_at t x ≡ c → ⊥) → Looking t s c (sibling_at t x)
  looking_on some other =
      looking k.trie k.inside (search-on k.trie k.inside c k.searching some other) (k.same ∙ child-next k.trie c x k.searching.inside some other)

  pub looking_found : 0 < x → letter_at t x ≡ c → x ≡ child_of t s c
  looking_found some here = sym (k.same ∙ child-found k.trie c x some here)

  pub looking_none : x ≤ 0 → 0 ≡ child_of t s c
  looking_none none = sym (k.same ∙ child-none k.trie c x none)
