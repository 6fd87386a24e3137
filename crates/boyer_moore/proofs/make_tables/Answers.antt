-- `boyer_moore::make_tables`: two makers, each lent its own part of the scratch, whichever memory the second one works in. Assumes nothing.
use Rattle.std.proofs.Common.{◌≡◌, ℕ, suc, ◌+◌, ◌-◌, ◌*◌, ◌<◌, ◌≤◌, List, ◌++◌, length, drop, arith, sym, ◌∙◌}
use lib.Seq.{length-take-le}
use borrow.Rule.Slice.PartMut.{put_mid, mid_of}
use Rattle.matching.specs.Received.{received}
use Rattle.tables.proofs.Tables.{made-front, made-part, both-received, first-entries, second-entries}
use Rattle.letter_tables.specs.BadCharacter.{delta1_entry, delta1_made}
use Rattle.suffix_tables.specs.Delta2.{delta2_entry, delta2_made}
use Rattle.suffix_tables.proofs.Delta2.{delta2-made}
use Rattle.boyer_moore.specs.BoyerMoore.{boyer_moore}
use Rattle.boyer_moore.specs.Made.{Made}
use Rattle.boyer_moore.proofs.make_tables.Goals as goal

module _ (P scratch : List ℕ) (short : length P ≤ 1024) (fits : 256 + length P ≤ length scratch) where
  -- what both makers leave, where the second one had room for the borders
  both-left : {front part : List ℕ} (room : ℕ) → length P < room → front ≡ delta1_made P (lib.ListN.take 256 scratch)
      → part ≡ delta2_made P room (mid_of 256 (length (front ++ drop 256 scratch) - 256) (front ++ drop 256 scratch))
      → put_mid 256 (length (front ++ drop 256 scratch) - 256) (front ++ drop 256 scratch) part ≡ received scratch (boyer_moore.tables P)
  both-left room long first second =
      let m : ℕ = length P in
      made-part m (2 * m - 1) 256 m (delta1_entry P) (λ q. delta2_entry P (suc q)) scratch fits (omega arith) (omega arith) (made-front m 256 (delta1_entry P) scratch (omega arith) (omega arith) first)
      (second ∙ delta2-made P room _ long)
      ∙ sym (both-received 256 m (delta1_entry P) (λ q. delta2_entry P (suc q)) scratch fits)

  both-made : {scratch' : List ℕ} → length scratch' ≡ length scratch → scratch' ≡ received scratch (boyer_moore.tables P) → Made P scratch'
  both-made long left =
      let m : ℕ = length P in
      let both = left ∙ both-received 256 m (delta1_entry P) (λ q. delta2_entry P (suc q)) scratch fits in
      record {
        short = short;
        room = omega arith;
        delta1 = first-entries 256 m (delta1_entry P) (λ q. delta2_entry P (suc q)) (drop (256 + m) scratch) both;
        delta2 = second-entries 256 m (delta1_entry P) (λ q. delta2_entry P (suc q)) (drop (256 + m) scratch) both;
      }

pub slice_bounds-delta1_table-end-2 : goal.slice_bounds-delta1_table-end-2
slice_bounds-delta1_table-end-2 c = sym (length-take-le 256 c.args.scratch.now (omega arith))

pub returns-then-pattern-le64-clause-left : goal.returns-then-pattern-le64-clause-left
returns-then-pattern-le64-clause-left c = both-left c.args.pattern.now c.args.scratch.now (omega arith) (omega arith) 65 (omega arith) c.delta1_table.ensures c.make_delta2.ensures

pub returns-then-pattern-le64-clause-made : goal.returns-then-pattern-le64-clause-made
returns-then-pattern-le64-clause-made c =
    both-made c.args.pattern.now c.args.scratch.now (omega arith) (omega arith) (omega arith)
    (both-left c.args.pattern.now c.args.scratch.now (omega arith) (omega arith) 65 (omega arith) c.delta1_table.ensures c.make_delta2.ensures)

pub returns-else-pattern-le64-clause-left : goal.returns-else-pattern-le64-clause-left
returns-else-pattern-le64-clause-left c = both-left c.args.pattern.now c.args.scratch.now (omega arith) (omega arith) 1025 (omega arith) c.delta1_table.ensures c.make_delta2-else-pattern-le64.ensures

pub returns-else-pattern-le64-clause-made : goal.returns-else-pattern-le64-clause-made
returns-else-pattern-le64-clause-made c =
    both-made c.args.pattern.now c.args.scratch.now (omega arith) (omega arith) (omega arith)
    (both-left c.args.pattern.now c.args.scratch.now (omega arith) (omega arith) 1025 (omega arith) c.delta1_table.ensures c.make_delta2-else-pattern-le64.ensures)
