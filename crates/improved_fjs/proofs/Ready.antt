-- What `find` brings to its search, from a call that is not refused; and the entries that the search reads. Assumes nothing.
use mathlib.Core.Path.{◌≡◌, sym, ap, ◌∙◌}
use mathlib.Core.Logic.{⊎_elim}
use Prim.Native.Nat.{ℕ, ◌+◌, ◌-◌, min}
use native.Mathlib.Omega.{arith}
use mathlib.Core.List.{List, ◌++◌, append_assoc}
use lib.ListN.{length, drop, length-append}
use Rattle.matching.specs.Received.{received}
use Rattle.matching.proofs.Received.{length-received}
use Rattle.std.proofs.lemmas.Bool.{cases_lt}
use Rattle.matching.specs.Find.{refusal, refusal_of}
use Rattle.matching.proofs.Find.{Within, long-refused}
use Rattle.matching.proofs.Progress.{Accepted, accepted-ok}
use Rattle.tables.specs.Tables.{Entries}
use Rattle.tables.proofs.Tables.{length-tabulate, front-entries, later-entries, rest-received}
use Rattle.letter_tables.specs.BadCharacter.{sunday_entry, sunday_table}
use Rattle.letter_tables.specs.Gaps.{mdp}
use Rattle.border_tables.specs.Kmp.{kmp_entry, kmp_table}
use Rattle.border_tables.specs.MaxShift.{max_shift, max_shift_table, border_tables}
use Rattle.border_tables.proofs.MaxShift.{border_tables-length}
use Rattle.improved_fjs.specs.ImprovedFjs.{improved_fjs}
use Rattle.improved_fjs.specs.Search.{Ready}
use Rattle.improved_fjs.proofs.Sound.{gap-inside}

-- the refusal is that of the engine, also where the pattern is so long that what it would need was not worked out
pub refused : (P T scratch : List ℕ) {number m : ℕ} → m ≡ min (length P) 1024 → number ≡ refusal (length P) (length T) (length scratch) (256 + ((m + 1) + (m + 1))) → number ≡ refusal_of improved_fjs P T scratch
refused P T scratch {number} {m} short is =
    is
    ∙ ⊎_elim
    (λ h. long-refused (length P) (length T) (length scratch) (256 + ((m + 1) + (m + 1))) (improved_fjs.entries (length P)) h)
    (λ h. ap (refusal (length P) (length T) (length scratch)) (omega arith))
    (cases_lt 1024 (length P))

pub allowed : (P T : List ℕ) {scratch : List ℕ} {m : ℕ} → m ≡ min (length P) 1024 → 0 ≡ refusal (length P) (length T) (length scratch) (256 + ((m + 1) + (m + 1))) → Accepted improved_fjs P T scratch
allowed P T {scratch} short is = accepted-ok (refused P T scratch short is)

-- the limits are kept, the tables are made and the gap is found
pub ready : {P T scratch scratch' : List ℕ} {place : ℕ} → Accepted improved_fjs P T scratch → scratch' ≡ received scratch (improved_fjs.tables P) → place ≡ mdp P - 1 → Ready P T scratch' place
ready {P} {T} {scratch} a tables gap =
    let l = a.limits in
    record {
      some = l.some;
      short = l.short;
      small = l.small;
      rest = drop (256 + length (border_tables P)) scratch;
      tables = tables ∙ rest-received 256 (sunday_entry P) (border_tables P) scratch (omega (arith, l.room, border_tables-length P));
      room = omega (arith, l.room, ap length tables, length-received scratch (improved_fjs.tables P));
      gap = gap;
      inside = omega (arith, gap-inside P l.some);
    }

module _ {P T scratch : List ℕ} {place : ℕ} (r : Ready P T scratch place) where
  -- the tables one after another
  in-turn : scratch ≡ sunday_table P ++ (kmp_table P ++ (max_shift_table P ++ r.rest))
  in-turn = r.tables ∙ append_assoc (sunday_table P) (border_tables P) r.rest ∙ ap (λ (l : List ℕ). sunday_table P ++ l) (append_assoc (kmp_table P) (max_shift_table P) r.rest)

  pub sundays : Entries 0 256 (sunday_entry P) scratch
  sundays = front-entries 256 (sunday_entry P) (kmp_table P ++ (max_shift_table P ++ r.rest)) in-turn

  pub kmps : Entries 256 (length P + 1) (kmp_entry P) scratch
  kmps = later-entries (sunday_table P) 256 (length P + 1) (kmp_entry P) (max_shift_table P ++ r.rest) (length-tabulate 256 (sunday_entry P)) in-turn

  pub shifts : Entries (256 + (length P + 1)) (length P + 1) (max_shift P) scratch
  shifts =
      let size : length (sunday_table P ++ kmp_table P) ≡ 256 + (length P + 1) =
      length-append (sunday_table P) (kmp_table P) ∙ omega (arith, length-tabulate 256 (sunday_entry P), length-tabulate (length P + 1) (kmp_entry P)) in
      later-entries (sunday_table P ++ kmp_table P) (256 + (length P + 1)) (length P + 1) (max_shift P) r.rest size
      (in-turn ∙ sym (append_assoc (sunday_table P) (kmp_table P) (max_shift_table P ++ r.rest)))

  pub limits : Within (length P) (length T) (length scratch) (improved_fjs.entries (length P))
  limits = record { some = r.some; short = r.short; small = r.small; room = r.room }
