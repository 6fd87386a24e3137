-- One window of the search, as its code goes through it: the last letter first where nothing is carried, then left to right up to a letter `until`; and the move by the tables' entries, noted or not.
-- Assumes nothing.
use mathlib.Core.Path.{◌≡◌, refl, sym, ap, subst, ◌∙◌}
use mathlib.Core.Logic.{◌⊎◌, inl, inr, ⊎_elim}
use Prim.Native.Nat.{ℕ, ◌+◌, ◌-◌, ◌≤◌, ◌<◌, min}
use native.Mathlib.Omega.{arith}
use mathlib.Core.List.{List, []}
use lib.ListN.{length, get_or, set, take, drop}
use borrow.Author.Tests.{eq-eqb, ne_eqb}
use Rattle.std.proofs.lemmas.Bool.{cases_lt}
use Rattle.matching.specs.Letters.{equal_pairs, reach}
use Rattle.matching.specs.Machine.{State, stop, at, run_from}
use Rattle.matching.proofs.CaseAnalysis.{at_same}
use Rattle.matching.proofs.Letters.{reach-until, reach-le, reach-differs, looks-part, looks-all}
use Rattle.matching.proofs.Machine.{run-off, run-stop}
use Rattle.matching.proofs.Progress.{Progress, Looping, looping, begins, Over, past, over-total, over-compared, over-listed, reported-as, missed-as, hit-up, miss-up}
use Rattle.letter_tables.specs.Moves.{sunday_move}
use Rattle.letter_tables.proofs.BadCharacter.{sunday-reads}
use Rattle.letter_tables.proofs.Moves.{sunday-next, sunday-stop, sunday-goes, sunday-over}
use Rattle.border_tables.specs.Moves.{kmp_move}
use Rattle.border_tables.proofs.Kmp.{kmp-reads}
use Rattle.border_tables.proofs.Moves.{kmp-next, kmp-goes}
use Rattle.fjs_steps.specs.Fjs.{sunday, kmp, step, window, fjs}
use Rattle.fjs_steps.specs.Moves.{moves, told, put_move}
use Rattle.fjs_steps.specs.Scratch.{Ready}
use Rattle.fjs_steps.proofs.Sound.{step_end, step-fresh, step-carried, window-end, window-carried, window-fresh, sound}
use Rattle.fjs_steps.proofs.Moves.{Noted, noted-none, noted-stop, noted_more, all-noted}
use Rattle.fjs_steps.proofs.MoveLists as lists
use Rattle.fjs_steps.proofs.Scratch.{sundays, kmps, limits}
use Rattle.fjs.specs.Search.{Searched}

module _ {P T list₀ : List ℕ} {s q total compared : ℕ} {list : List ℕ} (p : Progress fjs P T list₀ (at s q) total compared list) (inside : s + length P ≤ length T) where
  -- nothing is carried, so the state is one that carries nothing
  at_none : q ≡ 0 → Progress fjs P T list₀ (at s 0) total compared list
  at_none z = subst (λ n. Progress fjs P T list₀ (at s n) total compared list) z p

  -- nothing is carried and the last letter differs: one look, and Sunday's move
  pub end-differs : q ≡ 0 → (get_or P (length P - 1) 0 ≡ get_or T (s + (length P - 1)) 0 → ⊥) → Progress fjs P T list₀ (sunday_move P T s) total (compared + 1) list
  end-differs z differs = missed-as (at_none z) inside (window-end P T s differs) refl refl

  end-next : q ≡ 0 → (get_or P (length P - 1) 0 ≡ get_or T (s + (length P - 1)) 0 → ⊥) → (window P T s q).next ≡ sunday_move P T s
  end-next z differs = rw z (ap (λ v. v.next) (window-end P T s differs))

  end-rule : q ≡ 0 → (get_or P (length P - 1) 0 ≡ get_or T (s + (length P - 1)) 0 → ⊥) → (step P T s q).rule ≡ sunday
  end-rule z differs = rw z (ap (λ x. x.rule) (step_end P T s differs))

  pub end-noted : {s' q' count : ℕ} {noted₀ noted : List ℕ} → q ≡ 0 → (get_or P (length P - 1) 0 ≡ get_or T (s + (length P - 1)) 0 → ⊥) → sunday_move P T s ≡ at s' q' → lists.Noted P T noted₀ (at s q) count noted
      → lists.Noted P T noted₀ (at s' q') (count + 1) (put_move noted count s s' 1)
  end-noted z differs goes n = lists.noted_more {rule = sunday} p inside n (end-next z differs ∙ goes) (end-rule z differs)

  -- or the engine's stop, where no letter follows the window: no move
  pub end-stops : {count : ℕ} {noted₀ noted : List ℕ} → q ≡ 0 → (get_or P (length P - 1) 0 ≡ get_or T (s + (length P - 1)) 0 → ⊥) → sunday_move P T s ≡ stop → lists.Noted P T noted₀ (at s q) count noted
      → lists.Noted P T noted₀ stop count noted
  end-stops z differs goes n = lists.noted-stop p inside n (end-next z differs ∙ goes)

  -- the comparing left to right begins: nothing is carried, the last letter was looked at and is equal, and letters up to m - 1 are left; or letters are carried, and those up to
  -- m are left. The comparisons are now c
  abbrev pub Begun : ℕ → ℕ → Type 0
  Begun until c = ((q ≡ 0) × ((get_or P (length P - 1) 0 ≡ get_or T (s + (length P - 1)) 0) × ((until ≡ length P - 1) × (c ≡ compared + 1)))) ⊎ ((1 ≤ q) × ((until ≡ length P) × (c ≡ compared)))

  -- the window then moves by KMP's rule, by as many letters as are equal
  begun-step : {until c : ℕ} → Begun until c → ((window P T s q).next ≡ kmp_move P s (reach P T s q)) × ((step P T s q).rule ≡ kmp)
  begun-step g =
      ⊎_elim
      (λ f.
      rw f.0
      (ap (λ v. v.next) (window-fresh P T s p.sound.some inside f.1.0), ap (λ x. x.rule) (step-fresh P T s f.1.0)))
      (λ f. (ap (λ v. v.next) (window-carried P T s q f.0), ap (λ x. x.rule) (step-carried P T s q f.0)))
      g

  pub begun-noted : {until c r s' q' count : ℕ} {noted₀ noted : List ℕ} → Begun until c → reach P T s q ≡ r → kmp_move P s r ≡ at s' q' → lists.Noted P T noted₀ (at s q) count noted
      → lists.Noted P T noted₀ (at s' q') (count + 1) (put_move noted count s s' 2)
  begun-noted g e goes n = let b = begun-step g in lists.noted_more p inside n (b.0 ∙ ap (kmp_move P s) e ∙ goes) b.1

-- the search at the window that starts at s and carries q letters, fewer than the pattern has: the run's progress, what was told of the moves so far, which are no more than the places passed, and a start that
-- is not far past the text's end
pub record Going {A : Type 0} (after : A → ℕ → ℕ → ℕ → A) (noted : A → ℕ) (P T list₀ : List ℕ) (a₀ : A) (s q total compared : ℕ) (list : List ℕ) (a : A) : Type 0 where
  pub run : Looping fjs P T list₀ (at s q) total compared list
  pub moves : Noted after P T a₀ (at s q) a
  pub few : noted a ≤ s
  pub part : q < length P
  pub near : s ≤ length T + 1

going : {A : Type 0} {after : A → ℕ → ℕ → ℕ → A} {noted : A → ℕ} {P T list₀ : List ℕ} {a₀ : A} {s q total compared : ℕ} {list : List ℕ} {a : A} → Progress fjs P T list₀ (at s q) total compared list
    → Noted after P T a₀ (at s q) a → noted a ≤ s → s ≤ length T + 1 → Going after noted P T list₀ a₀ s q total compared list a
going p m few near = record { run = looping p; moves = m; few = few; part = p.carried.part; near = near }

-- the search ended with the text: nothing of the run is left, and all moves were told
pub record Ended {A : Type 0} (after : A → ℕ → ℕ → ℕ → A) (P T list₀ : List ℕ) (a₀ : A) (total looked : ℕ) (list : List ℕ) (a : A) : Type 0 where
  pub found : Searched P T list₀ (record { total = total; comparisons = looked }) list
  pub told_all : a ≡ told after a₀ (moves P T)

ended : {A : Type 0} {after : A → ℕ → ℕ → ℕ → A} {P T list₀ list : List ℕ} {a₀ a : A} {x : State} {total looked : ℕ} → Over fjs P T list₀ total looked list → Noted after P T a₀ x a
    → run_from window P T x ≡ [] → Ended after P T list₀ a₀ total looked list a
ended o n none = record { found = record { total = over-total o; comparisons = over-compared o; listed = over-listed o }; told_all = all-noted n none }

module _ {P T scratch : List ℕ} (r : Ready P T scratch) where
  pub going-first : {A : Type 0} (after : A → ℕ → ℕ → ℕ → A) (noted : A → ℕ) {list₀ : List ℕ} {a₀ : A} → noted a₀ ≡ 0 → Going after noted P T list₀ a₀ 0 0 0 0 list₀ a₀
  going-first after noted none = going (begins (limits r) (sound P T)) noted-none (omega (arith, none)) (omega arith)

  -- the measure of a search up to e falls: each entry moves the window on
  pub sunday-ends : {u : ℕ} (s e : ℕ) → s < e → u < 256 → e - (s + get_or scratch u 0) < e - s
  sunday-ends {u} s e h byte = omega (arith, (sunday-reads P u (sundays r) byte).least)

  pub kmp-ends : {k : ℕ} (s e : ℕ) → s < e → k ≤ length P → e - (s + (k + 1 - get_or scratch (256 + k) 0)) < e - s
  kmp-ends s e h l = omega (arith, (kmp-reads P (kmps r) l refl).most)

  -- KMP's entry is no more than the code takes it from
  pub kmp-fits : {k : ℕ} → k ≤ length P → get_or scratch (256 + k) 0 ≤ k + 1
  kmp-fits h = omega (arith, (kmp-reads P (kmps r) h refl).most)

  module _ {A : Type 0} {after : A → ℕ → ℕ → ℕ → A} {noted : A → ℕ} (one_more : (a : A) (old new rule : ℕ) → noted (after a old new rule) ≤ noted a + 1) {list₀ : List ℕ} {a₀ : A} {s q total compared : ℕ}
      {list : List ℕ} {a : A} (g : Going after noted P T list₀ a₀ s q total compared list a) (inside : s + length P ≤ length T) where
    p : Progress fjs P T list₀ (at s q) total compared list
    p = g.run.progress

    -- nothing is carried and the last letter differs: one look, and Sunday's move
    module _ (z : q ≡ 0) (differs : get_or P (length P - 1) 0 ≡ get_or T (s + (length P - 1)) 0 → ⊥) where
      -- a letter follows the window
      pub jumped : {a' : A} → let d = get_or scratch (get_or T (s + length P) 0) 0 in s + length P < length T → get_or T (s + length P) 0 < 256 → a' ≡ after a s (s + d) 1
          → Going after noted P T list₀ a₀ (s + d) q total (compared + 1) list a'
      jumped more byte is =
          let e = sunday-reads P (get_or T (s + length P) 0) (sundays r) byte in
          let d : ℕ = get_or scratch (get_or T (s + length P) 0) 0 in
          rw (z, is)
          (going (sunday-goes s (end-differs p inside z differs) more e) (noted_more p inside g.moves (end-next p inside z differs ∙ sunday-next P T s more e) (end-rule p inside z differs))
          (omega (arith, g.few, one_more a s (s + d) 1, e.least)) (omega (arith, e.most)))

      -- none does: the engine's stop, with no move
      stops : length T ≤ s + length P → Ended after P T list₀ a₀ total (compared + 1) list a
      stops none = ended (sunday-over s (end-differs p inside z differs) none) (noted-stop p inside g.moves (end-next p inside z differs ∙ sunday-stop P T s none)) (run-stop p.sound)

    -- the comparing left to right, up to a letter `until`, found `equal` letters equal; where nothing is carried, the last letter is equal, and looking at it was 1 - q looks more. So the window
    -- reports, or it does not; and it is moved by KMP's rule, by as many letters as are equal
    module _ {until equal j k t c : ℕ} {l : List ℕ} (fresh : q ≡ 0 → (until ≡ length P - 1) × (get_or P (length P - 1) 0 ≡ get_or T (s + (length P - 1)) 0)) (carried : 0 < q → until ≡ length P)
        (long : until - q ≤ j) (is : equal ≡ equal_pairs (take (until - q) (drop q P)) (take j (drop (s + q) T)))
        (part : q + equal < until → (k ≡ q + equal) × ((l ≡ list) × ((t ≡ total) × (c ≡ compared + (1 - q) + equal + 1))))
        (all : until ≤ q + equal → (k ≡ length P) × ((l ≡ set list total s) × ((t ≡ total + 1) × (c ≡ compared + (1 - q) + equal)))) where
      low : q ≤ until
      low = ⊎_elim (λ h. omega (arith, carried h, g.part)) (λ h. omega arith) (cases_lt 0 q)

      found : q + equal ≡ min until (reach P T s q)
      found = reach-until P T s q until low long is

      le : reach P T s q ≤ length P
      le = reach-le P T s q (omega (arith, g.part))

      -- where nothing is carried, and all letters but the last are equal, so is the last
      all_reached : until ≤ q + equal → reach P T s q ≡ length P
      all_reached h =
          ⊎_elim
          (λ x. omega (arith, found, le, carried x))
          (λ x.
          let f = fresh (omega arith) in
          let not_last : reach P T s q ≡ length P - 1 → ⊥ = λ e. reach-differs P T s q inside (omega (arith, g.part)) (at_same P e ∙ f.1 ∙ at_same T (omega arith)) in
          omega (arith, found, le, f.0, not_last, g.part))
          (cases_lt 0 q)

      reached : (reach P T s q ≡ k) × (k ≤ length P)
      reached =
          ⊎_elim
          (λ h. let w = part h in (omega (arith, found, w.0), omega (arith, found, w.0, le)))
          (λ h. let w = all h in (all_reached h ∙ sym w.0, omega (arith, w.0)))
          (cases_lt (q + equal) until)

      from-carried : 0 < q → Progress fjs P T list₀ (kmp_move P s k) t c l
      from-carried h =
          rw (← reached.0)
          (⊎_elim
          (λ x. let w = part x in rw (w.1.0, w.1.1.0) (miss-up p inside (window-carried P T s q h) refl (omega (arith, found, carried h)) (omega (arith, found, w.1.1.1))))
          (λ x. let w = all x in rw (w.1.0, w.1.1.0) (hit-up p inside (window-carried P T s q h) refl (all_reached x) (omega (arith, found, le, carried h, w.1.1.1))))
          (cases_lt (q + equal) until))

      from-none : q ≡ 0 → Progress fjs P T list₀ (kmp_move P s k) t c l
      from-none z =
          let f = fresh z in
          let v = window-fresh P T s g.run.some inside f.1 in
          let to : reach P T s 0 ≡ k = ap (reach P T s) (sym z) ∙ reached.0 in
          rw (← to)
          (⊎_elim
          (λ x.
          let w = part x in
          let looks = looks-part (length P - 1) (min (length P - 1) (reach P T s 0)) (omega (arith, to, w.0, f.0)) in
          rw (w.1.0, w.1.1.0) (missed-as (at_none p inside z) inside v (omega (arith, looks, to, w.0, w.1.1.1, f.0)) (ne_eqb (reach P T s 0) (length P) (λ e. omega (arith, to, w.0, f.0)))))
          (λ x.
          let w = all x in
          let looks = looks-all (length P - 1) (min (length P - 1) (reach P T s 0)) (omega (arith, to, w.0)) in
          rw (w.1.0, w.1.1.0) (reported-as (at_none p inside z) inside v (omega (arith, looks, to, w.0, w.1.1.1, f.0, found)) (eq-eqb (reach P T s 0) (length P) (to ∙ w.0))))
          (cases_lt (q + equal) until))

      by-kmp : ((window P T s q).next ≡ kmp_move P s (reach P T s q)) × ((step P T s q).rule ≡ kmp)
      by-kmp =
          let begun : Begun p inside until (compared + (1 - q)) =
          ⊎_elim (λ h. inr (h, (carried h, omega arith))) (λ h. let f = fresh (omega arith) in inl (omega arith, (f.1, (f.0, omega arith)))) (cases_lt 0 q) in
          begun-step p inside begun

      pub moved : {q' : ℕ} {a' : A} → let b = get_or scratch (256 + k) 0 in let to = s + (k + 1 - b) in q' ≡ b - 1 → a' ≡ after a s to 2 → Going after noted P T list₀ a₀ to q' t c l a'
      moved {q' = q'} carries is' =
          let e = kmp-reads P (kmps r) reached.1 refl in
          let b : ℕ = get_or scratch (256 + k) 0 in
          let to : ℕ = s + (k + 1 - b) in
          let progress = ⊎_elim (λ h. from-carried h) (λ h. from-none (omega arith)) (cases_lt 0 q) in
          let next : kmp_move P s (reach P T s q) ≡ at to q' = ap (kmp_move P s) reached.0 ∙ kmp-next P s k b to q' e.is (omega (arith, e.most)) carries in
          rw is'
          (going (kmp-goes s k progress e carries) (noted_more p inside g.moves (by-kmp.0 ∙ next) by-kmp.1) (omega (arith, g.few, one_more a s to 2, e.most)) (omega (arith, reached.1)))

  -- the loop is over, with c looks: at its test, or where no letter follows the window
  pub over : {A : Type 0} {after : A → ℕ → ℕ → ℕ → A} {noted : A → ℕ} → ((a : A) (old new rule : ℕ) → noted (after a old new rule) ≤ noted a + 1)
      → {list₀ : List ℕ} {a₀ : A} {s q total compared c : ℕ} {list : List ℕ} {a : A} → Going after noted P T list₀ a₀ s q total compared list a
      → (length T < s + length P → c ≡ compared) → (s + length P ≤ length T → (q ≡ 0) × ((length T ≤ s + length P) × (c ≡ compared + 1)))
      → (s + length P ≤ length T → get_or P (length P - 1) 0 ≡ get_or T (s + (length P - 1)) 0 → ⊥) → Ended after P T list₀ a₀ total c list a
  over one_more {s = s} {q = q} g test end differs =
      ⊎_elim
      (λ h. rw (test h) (ended (past g.run.progress h) g.moves (run-off g.run.progress.sound s q h)))
      (λ h. let w = end h in rw w.1.1 (stops one_more g h w.0 (differs h) w.1.0))
      (cases_lt (length T) (s + length P))
