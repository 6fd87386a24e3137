-- `resolver::resolve_groups`: the groups so far are walked and their entries put, and they and what the rest resolves to are the whole; the scratch is 0 throughout once a group is walked.
use Rattle.std.proofs.Common.{◌≡◌, ◌≤◌, ◌-◌, length, replicate}
use Rattle.cue_book.specs.Reading.{read_book, cues_in}
use Rattle.outcome.specs.Outcome.{chosen}
use Rattle.resolver.proofs.Walking.{Along}
use Rattle.resolver.proofs.resolve_groups.Given as goal

abbrev pub invariant-loop-walk : goal.invariant-loop-walk
invariant-loop-walk l =
    record {
      along : Along l.job.choice l.job.page l.job.book.now l.job.text.now (chosen l.job.choice (cues_in (read_book l.job.book.now))) l.fn.entries l.walk l.entries;
      room : length l.scratch ≡ length l.fn.scratch;
      emptied : 1 ≤ l.walk.index → l.scratch ≡ replicate (length l.fn.scratch) 0;
    }

abbrev pub decreases-loop-walk : goal.decreases-loop-walk
decreases-loop-walk l = l.cues - l.walk.index
