-- What a find by a method number promises (document 01, "What a find call takes and leaves"; refusal 1 of "What a refused call hands back").
use Rattle.std.specs.Prelude.{◌≡◌, ℕ, ◌≤◌, ◌<◌, cond, List, eqb, Result, MatchResult}
use Rattle.matching.specs.declared.Finding.{Finding}
use Rattle.matching.specs.declared.refusal.Refusal.{Refusal}
use Rattle.matching.specs.declared.refusal.Refusal.TheVariants.{UnknownMethod}
use Rattle.find.specs.declared.Method.{Method}
use Rattle.find.specs.declared.Method.TheVariants.{Naive, Kmp, Horspool, Sunday, Fjs, DoubleWindow, BoyerMoore, ImprovedFjs}
use Rattle.matching.specs.Find.{Engine, Found}
use Rattle.naive.specs.Naive.{naive}
use Rattle.kmp.specs.Kmp.{kmp}
use Rattle.horspool.specs.Horspool.{horspool}
use Rattle.sunday.specs.Sunday.{sunday}
use Rattle.fjs_steps.specs.Fjs.{fjs}
use Rattle.double_window.specs.DoubleWindow.{double_window}
use Rattle.boyer_moore.specs.BoyerMoore.{boyer_moore}
use Rattle.improved_fjs.specs.ImprovedFjs.{improved_fjs}

-- the engine of a method number: 0 naive, 1 KMP, 2 Horspool, 3 Sunday, 4 FJS, 5 double window, 6 Boyer-Moore, 7 improved FJS (document 02, (ii) and (x))
unfoldable pub engine_of : ℕ → Engine
engine_of method =
    cond (eqb method 0) naive
    (cond (eqb method 1) kmp
    (cond (eqb method 2) horspool
    (cond (eqb method 3) sunday
    (cond (eqb method 4) fjs
    (cond (eqb method 5) double_window
    (cond (eqb method 6) boyer_moore
    improved_fjs))))))

-- the same by name
abbrev pub engine_by : Method → Engine
engine_by Naive = naive
engine_by Kmp = kmp
engine_by Horspool = horspool
engine_by Sunday = sunday
engine_by Fjs = fjs
engine_by DoubleWindow = double_window
engine_by BoyerMoore = boyer_moore
engine_by ImprovedFjs = improved_fjs

-- and the number of each
abbrev pub method_number : Method → ℕ
method_number Naive = 0
method_number Kmp = 1
method_number Horspool = 2
method_number Sunday = 3
method_number Fjs = 4
method_number DoubleWindow = 5
method_number BoyerMoore = 6
method_number ImprovedFjs = 7

-- what a number names: the method that has it; a number above 7 is refused with 1
abbrev pub Named : ℕ → Result Method Refusal → Type 0
Named number r = MatchResult r (λ m. method_number m ≡ number) (λ e. (7 < number) × (e ≡ UnknownMethod))

-- a method above 7 is refused with 1, all as before; any other is a find by its engine
pub record Answered (method : ℕ) (P T scratch list : List ℕ) (r : Finding) (scratch' list' : List ℕ) : Type 0 where
  pub refused : 7 < method → (r ≡ record { refusal = 1; total = 0; comparisons = 0 }) × ((scratch' ≡ scratch) × (list' ≡ list))
  pub found : method ≤ 7 → Found (engine_of method) P T scratch list r scratch' list'
