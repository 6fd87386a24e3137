-- The rule of a lent list (document 01, "What a find call takes and leaves"): it receives the first values, up to its length; the entries past those written keep theirs.
-- Stated once for entries of any type, so that lists of 16-bit and of 32-bit numbers are ruled alike.
use Rattle.std.specs.Prelude.{ℕ, List, ◌++◌, length, take, drop}

module _ {ℓ} {A : Type ℓ} where
  -- the lent list after it received the values
  unfoldable pub received : List A → List A → List A
  received list values = take (length list) values ++ drop (length values) list

  -- and after it received them behind its first `at` entries
  abbrev pub received_from : ℕ → List A → List A → List A
  received_from at list values = take at list ++ received (drop at list) values
