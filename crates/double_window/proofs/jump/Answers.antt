-- `double_window::jump`: what it reads off Horspool's entries by u and by v is the rule of the jump. Assumes nothing.
use Rattle.std.proofs.Common.{◌≡◌, ℕ, ◌+◌, ◌-◌, ◌*◌, ◌<◌, ◌≤◌, List, length, get_or, arith, sym, ap, ◌∙◌}
use Rattle.matching.proofs.CaseAnalysis.{at_same}
use Rattle.tables.specs.Tables.{Entries}
use Rattle.letter_tables.specs.BadCharacter.{horspool_entry}
use Rattle.letter_tables.proofs.BadCharacter.{horspool-reads}
use Rattle.letter_tables.proofs.DoubleWindow.{read, read-last, read-other, read-le}
use Rattle.double_window.specs.DoubleWindow.{under, beyond, jump}
use Rattle.double_window.proofs.Sound.{jump_in, jump-past, jump_out}
use Rattle.double_window.proofs.jump.Goals as goal

-- the entry of a letter other than the last one is what the rule is read off
entry-of : (P entries : List ℕ) (c letter : ℕ) → 1 ≤ length P → Entries 0 256 (horspool_entry P) entries → c ≡ letter → c < 256 → (get_or P (length P - 1) 0 ≡ c → ⊥) → get_or entries c 0 ≡ read P letter
entry-of P entries c letter some table is byte other = (horspool-reads P c some table byte).is ∙ sym (read-other P c other) ∙ ap (read P) is

-- v's place, as the code and as the rule have it
v-is : (P T : List ℕ) (s : ℕ) → 1 ≤ length P → get_or T (s + 2 * length P - 1) 0 ≡ beyond P T s
v-is P T s some = at_same T (omega arith)

-- where u is absent and v lies in the text: m more than what is read by v
jump-by-v : (P T : List ℕ) (s : ℕ) {by-u by-v : ℕ} → 1 ≤ length P → by-u ≡ read P (under P T s) → length P ≤ by-u → s + 2 * length P - 1 < length T → by-v ≡ read P (beyond P T s)
    → length P + by-v ≡ jump P T s
jump-by-v P T s some is absent inside v = omega (arith, jump_out P T s some (omega arith) (omega (arith, read-le P (under P T s))))

pub returns-then-by_u-m : goal.returns-then-by_u-m
returns-then-by_u-m c =
    let P = c.args.pattern.now in
    let T = c.args.text.now in
    let by-u = entry-of P c.args.entries.now c.args.u (under P T c.args.s) (omega arith) c.requires.last_value.1 (omega arith) (omega arith) (λ e. omega arith) in
    by-u ∙ sym (jump_in P T c.args.s (omega arith) (λ e. omega arith))

pub returns-then-text-further : goal.returns-then-text-further
returns-then-text-further c =
    let P = c.args.pattern.now in
    let T = c.args.text.now in
    let by-u = entry-of P c.args.entries.now c.args.u (under P T c.args.s) (omega arith) c.requires.last_value.1 (omega arith) (omega arith) (λ e. omega arith) in
    by-u ∙ sym (jump-past P T c.args.s (omega arith) (omega arith))

pub returns-then-v-last : goal.returns-then-v-last
returns-then-v-last c =
    let P = c.args.pattern.now in
    let T = c.args.text.now in
    let s = c.args.s in
    let by-u = entry-of P c.args.entries.now c.args.u (under P T s) (omega arith) c.requires.last_value.1 (omega arith) (omega arith) (λ e. omega arith) in
    let some : 1 ≤ length P = omega arith in
    let by-v : 0 ≡ read P (beyond P T s) = sym (read-last P (beyond P T s) (omega (arith, v-is P T s some))) in
    omega (arith, jump-by-v P T s some by-u (omega arith) (omega arith) by-v)

pub returns : goal.returns
returns c =
    let P = c.args.pattern.now in
    let T = c.args.text.now in
    let s = c.args.s in
    let by-u = entry-of P c.args.entries.now c.args.u (under P T s) (omega arith) c.requires.last_value.1 (omega arith) (omega arith) (λ e. omega arith) in
    let some : 1 ≤ length P = omega arith in
    let by-v = entry-of P c.args.entries.now (get_or T (s + 2 * length P - 1) 0) (beyond P T s) some c.requires.last_value.1 (v-is P T s some) (omega arith) (λ e. omega arith) in
    jump-by-v P T s some by-u (omega arith) (omega arith) by-v
