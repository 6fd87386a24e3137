-- `letter_tables::widest_gap`: the last position of the next letter gives its gap, which is the widest so far or is not. Assumes nothing.
use Rattle.std.proofs.Common.{◌≡◌, ℕ, suc, ◌+◌, ◌<◌, List, length, get_or, arith, refl, sym, ◌∙◌, add-one}
use Rattle.std.proofs.lemmas.List.{get_or-replicate}
use Rattle.tables.proofs.Tables.{Ruled, ruled-set}
use Rattle.letter_tables.specs.BadCharacter.{last_in}
use Rattle.letter_tables.specs.Gaps.{gap}
use Rattle.letter_tables.proofs.BadCharacter.{last_in-le, last_in-zero, last_in-more}
use Rattle.letter_tables.proofs.Gaps.{gap-pos, gap_is, widest-none, widest_at-none, found_none, found-widest, widest-next}
use Rattle.letter_tables.proofs.widest_gap.Goals as goal

pub returns-then-pattern-gt65535 : goal.returns-then-pattern-gt65535
returns-then-pattern-gt65535 c = sym (found_none c.args.pattern.now c.if-pattern-gt65535.true)

pub loop-q-init : goal.loop-q-init
loop-q-init c =
    let P = c.args.pattern.now in
    record {
      last = record { entry = λ x h. get_or-replicate 256 x 0 0 h ∙ sym (last_in-zero P x); kept = refl; room = omega arith; long = refl };
      widest = rw (widest-none P, widest_at-none P);
    }

-- the last position of the next letter before it
last-before : (P : List ℕ) (q : ℕ) {before before₀ : List ℕ} → get_or P q 0 < 256 → Ruled 256 (last_in P q) before₀ before → q + 1 ≡ get_or before (get_or P q 0) 0 + gap P q
last-before P q byte r = let x = get_or P q 0 in omega (arith, r.entry x byte, last_in-le P q x, gap_is P q)

pub overflow_sub-gap : goal.overflow_sub-gap
overflow_sub-gap c = omega (arith, last-before c.args.pattern.now c.loop-q.q (omega (arith, c.type_inv.pattern c.loop-q.q)) c.loop-q.invariant.last, gap-pos c.args.pattern.now c.loop-q.q)

pub loop-q-preserved : goal.loop-q-preserved
loop-q-preserved c =
    let P = c.args.pattern.now in
    let q = c.loop-q.q in
    let byte : get_or P q 0 < 256 = omega (arith, c.type_inv.pattern q) in
    let i = c.loop-q.invariant in
    record {
      last = rw (add-one q) (ruled-set (last_in P (suc q)) (get_or P q 0) (suc q) byte (last_in-more P q) i.last);
      widest = widest-next P q _ i.widest (last-before P q byte i.last) (λ h. grind (arith, h)) (λ h. grind (arith, h));
    }

pub returns : goal.returns
returns c =
    let P = c.args.pattern.now in
    let done : c.loop-q.q ≡ length P = omega arith in
    rw (found-widest P (omega arith), ← done) c.loop-q.invariant.widest
