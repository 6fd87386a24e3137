-- The roles of those who call, and what each may do with a cue book or a cue (document 02, (xiv)). A number that is no role may do nothing.
use Rattle.std.specs.Prelude.{ℕ, Bool, cond, ◌||◌, eqb, Result, Ok, Err}
use Rattle.matching.specs.declared.refusal.Refusal.{Refusal}
use Rattle.matching.specs.declared.refusal.Refusal.TheVariants.{NotAllowed}
use Rattle.roles.specs.declared.Role.{Role}
use Rattle.roles.specs.declared.Role.TheVariants.{Operator, Translator, Guest}

abbrev pub operator : ℕ
operator = 0

abbrev pub translator : ℕ
translator = 1

abbrev pub guest : ℕ
guest = 2

-- the operator may do all
abbrev pub may_all : ℕ → Bool
may_all role = eqb role operator

-- a translator may have the book written anew with one title replaced
abbrev pub may_retitle : ℕ → Bool
may_retitle role = eqb role operator || eqb role translator

-- a guest may resolve
abbrev pub may_resolve : ℕ → Bool
may_resolve role = eqb role operator || eqb role guest

-- the refusal of any other act, and of an unknown role
abbrev pub not_allowed : ℕ
not_allowed = 19

-- the role that a number names; one that names none is refused with 19
abbrev pub role_by : ℕ → Result Role Refusal
role_by number = cond (eqb number operator) (Ok Operator) (cond (eqb number translator) (Ok Translator) (cond (eqb number guest) (Ok Guest) (Err NotAllowed)))
