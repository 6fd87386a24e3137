-- The state after a letter looked for along the fail links of a state. Assumes nothing.
use Rattle.std.proofs.Common.{◌≡◌, ℕ, ◌+◌, ◌*◌, ◌<◌, ◌≤◌, List, length, sym, ◌∙◌, arith}
use Rattle.tries.specs.Tables.{fail_at}
use Rattle.tries.specs.Rows.{class_at, row_at, Stepping, Standing}
use Rattle.tries.specs.Steps.{child_of, state_after}
use Rattle.tries.proofs.Steps.{by_row, state-by-child, state-by-fail, step_is}

-- from state x on the state is found that is asked for
pub record Along (t : List ℕ) (w count s c x : ℕ) : Type 0 where
  pub stepping : Stepping t w count x c
  pub room : 8 * x + 8 ≤ length t
  pub same : state_after t w count s c ≡ state_after t w count x c

module _ {t : List ℕ} {w count s c x : ℕ} (k : Along t w count s c x) where
  -- a state with a row
  pub along_row : x < count → row_at t w x (class_at t c) ≡ state_after t w count s c
  along_row h = sym (k.same ∙ by_row t w count c x x h)

  -- a state with none
  pub along_child : count ≤ x → 0 < child_of t x c → child_of t x c ≡ state_after t w count s c
  along_child h some = let p = k.stepping in sym (k.same ∙ state-by-child w p.linked p.some c x h some)

  along_falls : count ≤ x → fail_at t x < x
  along_falls h = let p = k.stepping in p.linked.falls x (omega (arith, p.some)) p.inside

  pub along_on : count ≤ x → child_of t x c ≤ 0 → Along t w count s c (fail_at t x)
  along_on h none =
      let p = k.stepping in
      let f : fail_at t x < x = along_falls h in
      record {
        stepping = record { phrases = p.phrases; names = p.names; done = p.done; linked = p.linked; rows = p.rows; some = p.some; inside = omega (arith, p.inside); byte = p.byte };
        room = omega (arith, k.room);
        same = k.same ∙ state-by-fail w p.linked p.some c x p.inside h none;
      }

-- the next state stands in the table
pub standing_room : {t : List ℕ} {w count s c : ℕ} → Standing t w count s → c < 256 → 8 * state_after t w count s c + 8 ≤ length t
standing_room {s = s} {c = c} p byte = omega (arith, (step_is p.rowed s c p.inside byte).inside, p.rowed.linking.linked.trie.room)
