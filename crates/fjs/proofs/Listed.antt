-- What a list of moves is after a search told it of all of them, and so what a find with a list of moves gives. Assumes nothing.
use mathlib.Core.Path.{◌≡◌, refl}
use Prim.Native.Nat.{ℕ}
use native.Mathlib.Omega.{arith}
use mathlib.Core.List.{List}
use lib.ListN.{length}
use borrow.Author.Tests.{eq-eqb}
use Rattle.matching.specs.Find.{refusal_of}
use Rattle.matching.specs.Received.{received}
use Rattle.matching.proofs.Progress.{Accepted}
use Rattle.fjs_steps.specs.Fjs.{fjs}
use Rattle.fjs_steps.specs.Moves.{Move, moves, fitting, told}
use Rattle.fjs_steps.proofs.Moves.{told-keeps, told-listed}
use Rattle.fjs.specs.declared.MoveList.{MoveList}
use Rattle.fjs.specs.declared.MovesFinding.{MovesFinding}
use Rattle.fjs.specs.Listed.{Listed}
use Rattle.fjs.specs.Search.{after_move}

module _ (n₀ : MoveList) (ms : List Move) {n : MoveList} (is : n ≡ told after_move n₀ ms) (none : n₀.count ≡ 0) where
  -- it is the caller's list still
  pub same_list : n.list.ghost_name ≡ n₀.list.ghost_name
  same_list = rw is (told-keeps after_move (λ n. n.list.ghost_name) (λ n old new rule. refl) n₀ ms)

  kept : n.list.now ≡ received n₀.list.now (fitting (length n₀.list.now) ms)
  kept = rw is (told-listed after_move (λ n. n.list.now) (λ n. n.count) (λ n old new rule. refl) (λ n old new rule. refl) n₀ ms none).0

  counted : n.count ≡ length ms
  counted = rw is (told-listed after_move (λ n. n.list.now) (λ n. n.count) (λ n old new rule. refl) (λ n old new rule. refl) n₀ ms none).1

pub listed : (P T : List ℕ) {scratch list' : List ℕ} (n₀ : MoveList) {n : MoveList} {r : MovesFinding} → Accepted fjs P T scratch → n ≡ told after_move n₀ (moves P T)
    → n₀.count ≡ 0 → list' ≡ n.list.now → r.moves ≡ n.count → Listed P T scratch n₀.list.now r list'
listed P T {scratch} n₀ ok is none same count =
    let on = eq-eqb (refusal_of fjs P T scratch) 0 ok.none in
    record { counted = rw on (omega (arith, count, counted n₀ (moves P T) is none)); listed = rw on (rw same (kept n₀ (moves P T) is none)) }
