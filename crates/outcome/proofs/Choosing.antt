-- Choosing the cues that a role sees and that play on a day: what they are, their numbers, and the cue that a number names. Assumes nothing.
use mathlib.Core.Path.{◌≡◌, refl, sym, ap, ap₂, ◌∙◌}
use Prim.Native.Nat.{ℕ, suc, ◌+◌}
use native.Mathlib.Omega.{arith}
use mathlib.Core.Bool.{Bool, true, false, cond}
use mathlib.Core.List.{List, [], ◌∷◌, ◌++◌}
use lib.ListN.{length, length-map}
use Rattle.matching.specs.Joined.{those}
use Rattle.matching.proofs.CaseAnalysis.{by-test}
use Rattle.matching.proofs.Those.{those-append, those-next, those-skip, those-all, those-sound, those-stands}
use Rattle.roles.specs.Roles.{operator, guest}
use Rattle.cues.specs.declared.Mark.{Mark}
use Rattle.cues.specs.declared.Mark.TheVariants.{Unmarked, Open, HouseOnly}
use Rattle.cues.specs.declared.Choice.{Choice}
use Rattle.cues.specs.Cue.{Cue, plays_on, is_open, sees, seen_by}
use Rattle.cue_book.specs.Reading.{playing, seen, playing_for}
use Rattle.outcome.specs.Outcome.{Numbered, numbered_from, chosen_from, chosen, cues_of}
use Rattle.outcome.specs.Told.{open_cues}

module _ (day : ℕ) where
  -- ---- by the first cue

  pub chosen_none : (k : ℕ) → chosen_from day k [] ≡ []
  unfolding chosen_from those numbered_from
  chosen_none k = refl

  -- whether the first plays, and then the others
  abbrev first_chosen : ℕ → Cue → List Cue → Bool → List Numbered
  first_chosen k c cs plays = cond plays (record { number = k; cue = c } ∷ chosen_from day (suc k) cs) (chosen_from day (suc k) cs)

  pub chosen-plays : (k : ℕ) (c : Cue) (cs : List Cue) → plays_on day c ≡ true → chosen_from day k (c ∷ cs) ≡ record { number = k; cue = c } ∷ chosen_from day (suc k) cs
  unfolding chosen_from those numbered_from
  chosen-plays k c cs e = ap (first_chosen k c cs) e

  pub chosen-not : (k : ℕ) (c : Cue) (cs : List Cue) → plays_on day c ≡ false → chosen_from day k (c ∷ cs) ≡ chosen_from day (suc k) cs
  unfolding chosen_from those numbered_from
  chosen-not k c cs e = ap (first_chosen k c cs) e

  -- ---- the cues chosen are those that play

  pub chosen-cues : (k : ℕ) (cs : List Cue) → cues_of (chosen_from day k cs) ≡ playing day cs
  unfolding those
  chosen-cues k [] = ap cues_of (chosen_none k)
  chosen-cues k (c ∷ cs) =
      by-test (λ _. cues_of (chosen_from day k (c ∷ cs)) ≡ playing day (c ∷ cs)) (plays_on day c)
      (λ e. ap cues_of (chosen-plays k c cs e) ∙ ap (λ (l : List Cue). c ∷ l) (chosen-cues (suc k) cs) ∙ sym (those-next (plays_on day) c cs e))
      (λ e. ap cues_of (chosen-not k c cs e) ∙ chosen-cues (suc k) cs ∙ sym (those-skip (plays_on day) c cs e))

  pub length-chosen : (k : ℕ) (cs : List Cue) → length (chosen_from day k cs) ≡ length (playing day cs)
  length-chosen k cs = sym (length-map (chosen_from day k cs) (λ (x : Numbered). x.cue)) ∙ ap length (chosen-cues k cs)

  -- those that play all do
  pub playing-twice : (cs : List Cue) → playing day (playing day cs) ≡ playing day cs
  playing-twice cs = those-all (plays_on day) (playing day cs) (λ c m. (those-sound (plays_on day) cs c m).1)

  -- ---- a number names a cue of the book: as many come before it as the number says, and those that play are chosen before it

  pub record Names (k : ℕ) (cs : List Cue) (before : List Numbered) (x : Numbered) (later : List Numbered) : Type 0 where
    pub front : List Cue
    pub back : List Cue
    pub split : cs ≡ front ++ x.cue ∷ back
    pub plays : plays_on day x.cue ≡ true
    pub number_is : x.number ≡ k + length front
    pub earlier : cues_of before ≡ playing day front
    pub others : cues_of later ≡ playing day back

  head_or : Numbered → List Numbered → Numbered
  head_or d [] = d
  head_or d (y ∷ ys) = y

  tail_of : List Numbered → List Numbered
  tail_of [] = []
  tail_of (y ∷ ys) = ys

  -- a cue more in front, which does not play, or does
  names-skip : {k : ℕ} (c : Cue) {cs : List Cue} {before : List Numbered} {x : Numbered} {later : List Numbered} → plays_on day c ≡ false → Names (suc k) cs before x later → Names k (c ∷ cs) before x later
  names-skip c p n =
      record {
        front = c ∷ n.front;
        back = n.back;
        split = ap (λ (l : List Cue). c ∷ l) n.split;
        plays = n.plays;
        number_is = omega (arith, n.number_is);
        earlier = n.earlier ∙ sym (those-skip (plays_on day) c n.front p);
        others = n.others;
      }

  names-next : {k : ℕ} (c : Cue) {cs : List Cue} (b : Numbered) {before : List Numbered} {x : Numbered} {later : List Numbered} → plays_on day c ≡ true → c ≡ b.cue → Names (suc k) cs before x later
      → Names k (c ∷ cs) (b ∷ before) x later
  names-next c b {before} p same n =
      record {
        front = c ∷ n.front;
        back = n.back;
        split = ap (λ (l : List Cue). c ∷ l) n.split;
        plays = n.plays;
        number_is = omega (arith, n.number_is);
        earlier = ap (λ (d : Cue). d ∷ cues_of before) (sym same) ∙ ap (λ (l : List Cue). c ∷ l) n.earlier ∙ sym (those-next (plays_on day) c n.front p);
        others = n.others;
      }

  pub names : (k : ℕ) (cs : List Cue) (before : List Numbered) (x : Numbered) (later : List Numbered) → chosen_from day k cs ≡ before ++ x ∷ later → Names k cs before x later
  unfolding head_or tail_of those
  names k [] [] x later e = absurd (let n : 0 ≡ suc (length later) = ap length (sym (chosen_none k) ∙ e) in omega arith)
  names k [] (b ∷ before) x later e = absurd (let n : 0 ≡ suc (length (before ++ x ∷ later)) = ap length (sym (chosen_none k) ∙ e) in omega arith)
  names k (c ∷ cs) [] x later e =
      by-test (λ _. Names k (c ∷ cs) [] x later) (plays_on day c)
      (λ p.
      let first : record { number = k; cue = c } ∷ chosen_from day (suc k) cs ≡ x ∷ later = sym (chosen-plays k c cs p) ∙ e in
      let is : record { number = k; cue = c } ≡ x = ap (head_or x) first in
      let same : c ≡ x.cue = ap (λ (y : Numbered). y.cue) is in
      record {
        front = [];
        back = cs;
        split = ap (λ (d : Cue). d ∷ cs) same;
        plays = ap (plays_on day) (sym same) ∙ p;
        number_is = omega (arith, ap (λ (y : Numbered). y.number) is);
        earlier = refl;
        others = ap cues_of (sym (ap tail_of first)) ∙ chosen-cues (suc k) cs;
      })
      (λ p. names-skip c p (names (suc k) cs [] x later (sym (chosen-not k c cs p) ∙ e)))
  names k (c ∷ cs) (b ∷ before) x later e =
      by-test (λ _. Names k (c ∷ cs) (b ∷ before) x later) (plays_on day c)
      (λ p.
      let first : record { number = k; cue = c } ∷ chosen_from day (suc k) cs ≡ b ∷ before ++ x ∷ later = sym (chosen-plays k c cs p) ∙ e in
      names-next c b p (ap (λ (l : List Numbered). (head_or b l).cue) first) (names (suc k) cs before x later (ap tail_of first)))
      (λ p. names-skip c p (names (suc k) cs (b ∷ before) x later (sym (chosen-not k c cs p) ∙ e)))

-- ---- what a role sees

-- the operator sees every cue, so that a number is the index in the book
pub operator-sees : (cs : List Cue) → seen operator cs ≡ cs
operator-sees cs = those-all (seen_by operator) cs (λ c _. whatever c.mark)
  where
    whatever : (mark : Mark) → sees operator mark ≡ true
    whatever Unmarked = refl
    whatever Open = refl
    whatever HouseOnly = refl

-- a guest sees the open ones
pub guest-sees : (cs : List Cue) → seen guest cs ≡ open_cues cs
unfolding those
guest-sees [] = refl
guest-sees (c ∷ cs) = ap₂ (λ (t : Bool) (l : List Cue). cond t (c ∷ l) l) (open-seen c.mark) (guest-sees cs)
  where
    open-seen : (mark : Mark) → sees guest mark ≡ is_open mark
    open-seen Unmarked = refl
    open-seen Open = refl
    open-seen HouseOnly = refl

module _ (who : Choice) where
  -- a cue that the role does not see has no part in what is chosen, nor in any number, wherever it stands
  pub unseen : (before : List Cue) (c : Cue) (later : List Cue) → seen_by who.role c ≡ false → chosen who (before ++ c ∷ later) ≡ chosen who (before ++ later)
  unseen before c later e =
      let sees : Cue → Bool = seen_by who.role in
      ap (chosen_from who.day 0) (those-append sees before (c ∷ later) ∙ ap (λ (l : List Cue). those sees before ++ l) (those-skip sees c later e) ∙ sym (those-append sees before later))

  -- the cues chosen are those that the role sees and that play
  pub chosen-are : (cs : List Cue) → cues_of (chosen who cs) ≡ playing_for who cs
  chosen-are cs = chosen-cues who.day 0 (seen who.role cs)

  pub length-for : (cs : List Cue) → length (chosen who cs) ≡ length (playing_for who cs)
  length-for cs = length-chosen who.day 0 (seen who.role cs)

  -- of a book in which only the chosen ones stand the role sees all
  pub alone-seen : (cs : List Cue) → seen who.role (playing_for who cs) ≡ playing_for who cs
  alone-seen cs = those-all (seen_by who.role) (playing_for who cs) (λ c m. (those-sound (seen_by who.role) cs c (those-sound (plays_on who.day) (seen who.role cs) c m).0).1)

  -- a number names a cue of the book: as many that the role sees come before it as the number says, and those of them that play are chosen before it
  pub record NamesSeen (cs : List Cue) (before : List Numbered) (x : Numbered) (later : List Numbered) : Type 0 where
    pub front : List Cue
    pub back : List Cue
    pub split : cs ≡ front ++ x.cue ∷ back
    pub sees : seen_by who.role x.cue ≡ true
    pub plays : plays_on who.day x.cue ≡ true
    pub number_is : x.number ≡ length (seen who.role front)
    pub earlier : cues_of before ≡ playing_for who front
    pub others : cues_of later ≡ playing_for who back

  pub names-seen : (cs : List Cue) (before : List Numbered) (x : Numbered) (later : List Numbered) → chosen who cs ≡ before ++ x ∷ later → NamesSeen cs before x later
  names-seen cs before x later e =
      let n = names who.day 0 (seen who.role cs) before x later e in
      let s = those-stands (seen_by who.role) cs n.front x.cue n.back n.split in
      record {
        front = s.before;
        back = s.after;
        split = s.split;
        sees = s.passes;
        plays = n.plays;
        number_is = omega (arith, n.number_is, ap length s.earlier);
        earlier = n.earlier ∙ ap (playing who.day) (sym s.earlier);
        others = n.others ∙ ap (playing who.day) (sym s.later);
      }
