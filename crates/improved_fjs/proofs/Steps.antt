-- One window of the search, as its code goes through it: letter mdp first where nothing is carried, then left to right up to the last letter; and the move by the tables' entries. Assumes nothing.
use mathlib.Core.Path.{◌≡◌, refl, sym, ap, subst, ◌∙◌}
use mathlib.Core.Logic.{⊎_elim}
use Prim.Native.Nat.{ℕ, ◌+◌, ◌-◌, ◌≤◌, ◌<◌}
use native.Mathlib.Omega.{arith}
use mathlib.Core.List.{List}
use lib.ListN.{length, get_or, set}
use Rattle.std.proofs.lemmas.Bool.{cases_lt}
use borrow.Author.Tests.{eq-eqb, ne_eqb}
use Rattle.matching.specs.Letters.{equal_on, reach}
use Rattle.matching.specs.Machine.{at}
use Rattle.matching.proofs.CaseAnalysis.{at_same}
use Rattle.matching.proofs.Letters.{reach-le, Upward, up-stops, up_ends, looks-part, looks-all}
use Rattle.matching.proofs.Progress.{Progress, Looping, looping, begins, reported-as, missed-as, stepped-up, past, Over, over-total, over-compared, over-listed}
use Rattle.letter_tables.specs.Moves.{sunday_move}
use Rattle.letter_tables.proofs.BadCharacter.{sunday-reads}
use Rattle.letter_tables.proofs.Moves.{sunday-goes, sunday-over}
use Rattle.border_tables.specs.Moves.{kmp_move, max_move}
use Rattle.border_tables.proofs.Kmp.{kmp-reads}
use Rattle.border_tables.proofs.MaxShift.{max-reads}
use Rattle.border_tables.proofs.Moves.{kmp-goes, max-goes}
use Rattle.improved_fjs.specs.ImprovedFjs.{improved_fjs}
use Rattle.improved_fjs.specs.Search.{Ready, Searched}
use Rattle.improved_fjs.proofs.Sound.{Equal, window-differs, window-fresh, window-carried, sound}
use Rattle.improved_fjs.proofs.Ready.{sundays, kmps, shifts, limits}

-- the window at s with q letters carried is done, with k letters equal: the engine moves on by MAX_Shift where nothing was carried, and by KMP's shift where letters were
pub record Done (P T list₀ : List ℕ) (s q k total compared : ℕ) (list : List ℕ) : Type 0 where
  pub fresh : q ≡ 0 → Progress improved_fjs P T list₀ (max_move P s k) total compared list
  pub carried : 1 ≤ q → Progress improved_fjs P T list₀ (kmp_move P s k) total compared list
  pub few : k ≤ length P

module _ {P T list₀ : List ℕ} {s q total compared : ℕ} {list : List ℕ} (p : Progress improved_fjs P T list₀ (at s q) total compared list) (inside : s + length P ≤ length T) where
  -- nothing is carried, so the state is one that carries nothing
  at_none : q ≡ 0 → Progress improved_fjs P T list₀ (at s 0) total compared list
  at_none z = subst (λ n. Progress improved_fjs P T list₀ (at s n) total compared list) z p

  -- nothing is carried and letter mdp differs: one look, and Sunday's move
  pub gap-differs : q ≡ 0 → (Equal P T s → ⊥) → Progress improved_fjs P T list₀ (sunday_move P T s) total (compared + 1) list
  gap-differs z differs = missed-as (at_none z) inside (window-differs P T s differs) refl refl

  -- the comparing left to right reached letter k; where nothing is carried, letter mdp is equal, and looking at it was 1 - q looks more. So the window reports, or it does not
  module _ {k t c : ℕ} {l : List ℕ} (equal : q ≡ 0 → Equal P T s) (reached : k ≡ reach P T s q)
      (part : k < length P → (l ≡ list) × ((t ≡ total) × (c ≡ compared + (1 - q) + (k - q) + 1)))
      (all : length P ≤ k → (l ≡ set list total s) × ((t ≡ total + 1) × (c ≡ compared + (1 - q) + (k - q)))) where
    from : q ≤ k
    from = omega (arith, reached)

    upto : k ≤ length P
    upto = omega (arith, reached, reach-le P T s q (omega (arith, p.carried.part)))

    done : Done P T list₀ s q k t c l
    done =
        record {
          fresh = λ z.
              let e = ap (reach P T s) (sym z) ∙ sym reached in
              let w = window-fresh P T s (equal z) in
              rw (← e)
              (⊎_elim
              (λ h.
              let x = part h in
              let looks = looks-part (length P - 0) (equal_on P T s 0) (omega arith) in
              rw (x.0, x.1.0) (missed-as (at_none z) inside w (omega (arith, x.1.1, z, looks)) (ne_eqb (reach P T s 0) (length P) (λ i. omega arith))))
              (λ h.
              let x = all h in
              let looks = looks-all (length P - 0) (equal_on P T s 0) (omega (arith, upto)) in
              rw (x.0, x.1.0) (reported-as (at_none z) inside w (omega (arith, x.1.1, z, upto, looks)) (eq-eqb (reach P T s 0) (length P) (omega (arith, upto)))))
              (cases_lt k (length P)));
          carried = λ h.
              rw reached
              (stepped-up p inside (window-carried P T s q h) reached upto
              (λ x. let w = part x in (w.0, (w.1.0, omega (arith, w.1.1, h, from))))
              (λ x. let w = all x in (w.0, (w.1.0, omega (arith, w.1.1, h, from)))));
          few = upto;
        }

  -- the comparing left to right begins, with c comparisons: where nothing is carried, letter mdp was looked at and is equal
  pub record Begun (c : ℕ) : Type 0 where
    pub fresh : q ≡ 0 → Equal P T s × (c ≡ compared + 1)
    pub carried : 1 ≤ q → c ≡ compared
    pub few : c ≤ compared + 1

  module _ {c k : ℕ} (g : Begun c) (u : Upward P T s q (length P) k) where
    looked : c ≡ compared + (1 - q)
    looked = ⊎_elim (λ h. omega (arith, g.carried h)) (λ h. let z : q ≡ 0 = omega arith in omega (arith, (g.fresh z).1)) (cases_lt 0 q)

    -- as many letters are equal from the window's start on as the comparing passed
    module _ (stops : k ≡ reach P T s q) where
      -- letter k + 1 is not equal
      part : k < length P → {c' : ℕ} → c' ≡ c + (k - q) + 1 → Done P T list₀ s q k total c' list
      part k< sum = done (λ z. (g.fresh z).0) stops (λ h. (refl, (refl, omega (arith, looked)))) (λ h. absurd (omega arith))

      -- every letter is equal
      whole : length P ≤ k → {c' : ℕ} → c' ≡ c + (k - q) → Done P T list₀ s q k (total + 1) c' (set list total s)
      whole all sum = done (λ z. (g.fresh z).0) stops (λ h. absurd (omega arith)) (λ h. (refl, (refl, omega (arith, looked))))

    pub miss : k < length P → (get_or P k 0 ≡ get_or T (s + k) 0 → ⊥) → {c' : ℕ} → c' ≡ c + (k - q) + 1 → Done P T list₀ s q k total c' list
    miss k< differs = part (up-stops u inside k< differs) k<

    pub hit : length P ≤ k → {c' : ℕ} → c' ≡ c + (k - q) → Done P T list₀ s q k (total + 1) c' (set list total s)
    hit all = whole (up_ends u inside all) all

-- the search at the window that starts at s and carries q letters, fewer than the pattern has: the run's progress, and a start that is not far past the text's end
pub record Going (P T list₀ : List ℕ) (s q total compared : ℕ) (list : List ℕ) : Type 0 where
  pub run : Looping improved_fjs P T list₀ (at s q) total compared list
  pub part : q < length P
  pub near : s ≤ length T + 1

going : {P T list₀ : List ℕ} {s q total compared : ℕ} {list : List ℕ} → Progress improved_fjs P T list₀ (at s q) total compared list → s ≤ length T + 1 → Going P T list₀ s q total compared list
going p near = record { run = looping p; part = p.carried.part; near = near }

searched-all : {P T list₀ list : List ℕ} {total c : ℕ} → Over improved_fjs P T list₀ total c list → Searched P T list₀ (record { total = total; comparisons = c }) list
searched-all o = record { answer = rw (over-total o, over-compared o); listed = over-listed o }

module _ {P T scratch : List ℕ} {place : ℕ} (r : Ready P T scratch place) where
  pub going-first : {list₀ : List ℕ} → Going P T list₀ 0 0 0 0 list₀
  going-first = going (begins (limits r) (sound P T)) (omega arith)

  -- the measure of a search up to e falls: each entry moves the window on
  pub sunday-ends : (u s e : ℕ) → s < e → u < 256 → e - (s + get_or scratch u 0) < e - s
  sunday-ends u s e h byte = omega (arith, (sunday-reads P u (sundays r) byte).least)

  pub kmp-most : (k : ℕ) → k ≤ length P → get_or scratch (256 + k) 0 ≤ k
  kmp-most k h = (kmp-reads P (kmps r) h refl).most

  pub shift-ends : (q k s e : ℕ) {d : ℕ} → s < e → k ≤ length P → (0 < q → d ≡ k + 1 - get_or scratch (256 + k) 0) → (q ≡ 0 → d ≡ get_or scratch (256 + (length P + 1) + k) 0) → e - (s + d) < e - s
  shift-ends q k s e h l by-border by-gap =
      ⊎_elim
      (λ x. omega (arith, by-border x, kmp-most k l))
      (λ x. omega (arith, by-gap (omega arith), (max-reads P r.some (shifts r) l refl).least))
      (cases_lt 0 q)

  module _ {list₀ : List ℕ} {s q total compared : ℕ} {list : List ℕ} (g : Going P T list₀ s q total compared list) (inside : s + length P ≤ length T) where
    -- letter mdp, as the code compares it
    as-gap : Equal P T s → get_or P place 0 ≡ get_or T (s + place) 0
    as-gap e = at_same P r.gap ∙ e ∙ at_same T (omega (arith, r.gap))

    is-gap : get_or P place 0 ≡ get_or T (s + place) 0 → Equal P T s
    is-gap e = at_same P (omega (arith, r.gap)) ∙ e ∙ at_same T (omega (arith, r.gap))

    -- nothing is carried and letter mdp differs, as the code compares it
    place-differs : q ≡ 0 → (get_or P place 0 ≡ get_or T (s + place) 0 → ⊥) → Progress improved_fjs P T list₀ (sunday_move P T s) total (compared + 1) list
    place-differs z differs = gap-differs g.run.progress inside z (λ e. differs (as-gap e))

    -- and a letter follows the window
    pub jumped : q ≡ 0 → (get_or P place 0 ≡ get_or T (s + place) 0 → ⊥) → s + length P < length T → get_or T (s + length P) 0 < 256
        → Going P T list₀ (s + get_or scratch (get_or T (s + length P) 0) 0) q total (compared + 1) list
    jumped z differs more byte =
        let e = sunday-reads P (get_or T (s + length P) 0) (sundays r) byte in
        rw z (going (sunday-goes s (place-differs z differs) more e) (omega (arith, e.most)))

    -- the comparing left to right reached letter k, and the window is moved by d, MAX_Shift where nothing is carried, and else KMP's shift
    module _ {k t c d q' : ℕ} {l : List ℕ} (fresh : q ≡ 0 → get_or P place 0 ≡ get_or T (s + place) 0) (reached : k ≡ reach P T s q)
        (part : k < length P → (l ≡ list) × ((t ≡ total) × (c ≡ compared + (1 - q) + (k - q) + 1)))
        (all : length P ≤ k → (l ≡ set list total s) × ((t ≡ total + 1) × (c ≡ compared + (1 - q) + (k - q))))
        (by-border : 0 < q → d ≡ k + 1 - get_or scratch (256 + k) 0) (by-gap : q ≡ 0 → d ≡ get_or scratch (256 + (length P + 1) + k) 0)
        (keeps : q' ≡ k - d) where
      pub moved : Going P T list₀ (s + d) q' t c l
      moved =
          let w = done g.run.progress inside (λ z. is-gap (fresh z)) reached part all in
          ⊎_elim
          (λ h.
          let e = kmp-reads P (kmps r) w.few refl in
          let d' = by-border h in
          rw d' (going (kmp-goes s k (w.carried h) e (omega (arith, e.most))) (omega (arith, w.few))))
          (λ h.
          let z : q ≡ 0 = omega arith in
          let e = max-reads P r.some (shifts r) w.few refl in
          let d' = by-gap z in
          rw d' (going (max-goes s k (w.fresh z) e (omega arith)) (omega (arith, e.most))))
          (cases_lt 0 q)

  -- the loop is over, with c looks: at its test, or where no letter follows the window
  pub searched : {list₀ : List ℕ} {s q total compared c : ℕ} {list : List ℕ} → Going P T list₀ s q total compared list → (length T < s + length P → c ≡ compared)
      → (s + length P ≤ length T → (q ≡ 0) × ((length T ≤ s + length P) × (c ≡ compared + 1))) → (s + length P ≤ length T → get_or P place 0 ≡ get_or T (s + place) 0 → ⊥)
      → Searched P T list₀ (record { total = total; comparisons = c }) list
  searched {s = s} {q = q} g out stop differs =
      ⊎_elim
      (λ h. rw (out h) (searched-all (past g.run.progress h)))
      (λ h.
      let w = stop h in
      rw w.1.1 (searched-all (sunday-over s (place-differs g h w.0 (differs h)) w.1.0)))
      (cases_lt (length T) (s + length P))
