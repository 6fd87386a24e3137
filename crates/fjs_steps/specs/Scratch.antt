-- The scratch that a search by these steps reads. Not part of any public promise.
use Rattle.std.specs.Prelude.{◌≡◌, ℕ, ◌+◌, ◌≤◌, List, ◌++◌, length}
use Rattle.fjs_steps.specs.Fjs.{fjs}

-- the limits of a find are kept, and the tables stand at the scratch's front
pub record Ready (P T scratch : List ℕ) : Type 0 where
  pub some : 1 ≤ length P
  pub short : length P ≤ 1024
  pub small : length T ≤ 32768
  pub room : 256 + (length P + 1) ≤ length scratch
  pub rest : List ℕ
  pub tables : scratch ≡ fjs.tables P ++ rest
