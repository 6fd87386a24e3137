-- `letter_tables::fill`: at first every entry is the base, and a letter changes its own entry alone. Assumes nothing.
use Rattle.std.proofs.Common.{◌≡◌, ℕ, suc, ◌+◌, ◌-◌, ◌≤◌, ◌<◌, List, ◌++◌, length, get_or, take, drop, set, replicate, cond, eqb, arith, refl, add-one, length-take}
use Rattle.std.proofs.Math.Seq.{get_or-take, length-take-le}
use Rattle.matching.proofs.CaseAnalysis.{by-test}
use Rattle.tables.proofs.Tables.{Ruled, ruled-all, ruled-set, ruled-as, made-kept_by, ruled-made}
use Rattle.letter_tables.specs.BadCharacter.{last_in}
use Rattle.letter_tables.proofs.BadCharacter.{last_in-zero, last_in-more}
use Rattle.letter_tables.proofs.fill.Goals as goal

-- the entry of the letter x, when q letters are passed
abbrev after : ℕ → List ℕ → ℕ → ℕ → ℕ
after base P q x = base - last_in P q x

begin : (base : ℕ) (P : List ℕ) {t part : List ℕ} → 256 ≤ length t → part ≡ replicate (length (take 256 t)) base → Ruled 256 (after base P 0) t (part ++ drop 256 t)
begin base P {t} h e =
    rw (e, length-take-le 256 t h) (ruled-as (λ x _. omega (arith, last_in-zero P x)) (ruled-all 256 base t h))

passed : (base : ℕ) (P : List ℕ) (q : ℕ) {t₀ t : List ℕ} → get_or P q 0 < 256 → Ruled 256 (after base P q) t₀ t → Ruled 256 (after base P (q + 1)) t₀ (set t (get_or P q 0) (base - 1 - q))
passed base P q h r =
    ruled-set (after base P (q + 1)) (get_or P q 0) (base - 1 - q) h
    (λ x. rw (add-one, last_in-more P q x) (by-test (λ t. base - cond t (suc q) (last_in P q x) ≡ cond t (base - 1 - q) (base - last_in P q x)) (eqb (get_or P q 0) x) (λ _. omega arith) (λ _. refl)))
    r

pub returns-then-table-lt256 : goal.returns-then-table-lt256
returns-then-table-lt256 c = let a = c.args in made-kept_by a.base 256 (after a.base a.pattern.now a.count) a.table.now (λ h k. grind (arith, c.then-table-lt256.either))

pub loop-q-init : goal.loop-q-init
loop-q-init c = begin c.args.base c.args.pattern.now (omega arith) c.set_all.ensures

pub loop-q-preserved : goal.loop-q-preserved
loop-q-preserved c =
    let q< : c.loop-q.q < c.args.count = omega (arith, length-take {A = ℕ}) in
    let byte : get_or c.args.pattern.now c.loop-q.q 0 < 256 = omega (arith, c.type_inv.pattern c.loop-q.q) in
    rw (get_or-take c.args.count c.args.pattern.now c.loop-q.q 0 q<) (passed c.args.base c.args.pattern.now c.loop-q.q byte c.loop-q.invariant)

pub returns : goal.returns
returns c = let done : c.args.count ≡ c.loop-q.q = omega (arith, length-take {A = ℕ}) in rw done (ruled-made c.args.base (omega arith) c.loop-q.invariant)
