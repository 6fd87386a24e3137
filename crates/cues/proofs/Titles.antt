-- A cue's bytes around its title, whatever fields come after it: what stands before the title's field (`head_bytes`) and behind it (`tail_bytes`), and where a valid cue's title is read. Assumes nothing.
use mathlib.Core.Path.{◌≡◌, refl, sym, ap, ◌∙◌}
use Prim.Native.Nat.{ℕ, ◌+◌, ◌-◌}
use native.Mathlib.Omega.{arith}
use mathlib.Core.Bool.{false≢true}
use mathlib.Core.List.{List, [], ◌∷◌, ◌++◌, append_assoc}
use lib.ListN.{length, drop, length-append, length-drop}
use Rattle.cue_fields.specs.declared.Due.TheVariants.{Title}
use Rattle.cue_fields.specs.Field.{tag_of, two_bytes, field_bytes, field_length}
use Rattle.cue_fields.specs.Form.{form_size, after_form, form_bytes, AllSound, Told}
use Rattle.cue_fields.proofs.Form.{two-number, form-append, form-back, form-inside}
use Rattle.cues.specs.Cue.{Cue, cue_form, head_form, cue_bodies, cue_bytes, Valid}
use Rattle.cues.specs.Places.{start_of_title, title_length}
use Rattle.cues.proofs.Values.{valid-sound}

-- the bodies of the fields before the title; the bytes of these fields, and of those behind the title
abbrev head_bodies : Cue → List (List ℕ)
head_bodies c = c.phrase ∷ two_bytes c.ordinal ∷ []

abbrev pub head_bytes : Cue → List ℕ
head_bytes c = form_bytes head_form (head_bodies c)

abbrev pub tail_bytes : Cue → List ℕ
tail_bytes c = form_bytes (drop 3 cue_form) (drop 3 (cue_bodies c))

-- a cue's bytes are those of the fields before its title, its title's, and those of the fields behind
pub title-split : (c : Cue) → cue_bytes c ≡ head_bytes c ++ (field_bytes (tag_of Title) c.title ++ tail_bytes c)
unfolding cue_bytes form_bytes
title-split c = form-append head_form (drop 2 cue_form) (head_bodies c) (drop 2 (cue_bodies c)) refl

-- the fields before a valid cue's title take as many bytes as they have, and leave what comes after them
head-after : (c : Cue) → Valid c → (more : List ℕ) → (form_size head_form (head_bytes c ++ more) ≡ length (head_bytes c)) × (after_form head_form (head_bytes c ++ more) ≡ more)
unfolding AllSound Told
head-after c v more =
    let s = valid-sound c v in
    let rest : List ℕ = head_bytes c ++ more in
    let f = form-back head_form (head_bodies c) (s.0, (s.1.0, tt)) more (λ o. absurd (false≢true o), (λ o. absurd (false≢true o), tt)) in
    let left : length rest - form_size head_form rest ≡ length more = sym (length-drop (form_size head_form rest) rest) ∙ ap length f.after in
    (omega (arith, left, form-inside head_form rest f.none, length-append (head_bytes c) more), f.after)

-- so a valid cue's title starts after them and its header's three bytes, and is as long as it is
pub title-placed : (c : Cue) → Valid c → (more : List ℕ) → (start_of_title (cue_bytes c ++ more) ≡ length (head_bytes c) + 3) × (title_length (cue_bytes c ++ more) ≡ length c.title)
title-placed c v more =
    let title : List ℕ = field_bytes (tag_of Title) c.title ++ tail_bytes c in
    let shape : cue_bytes c ++ more ≡ head_bytes c ++ (title ++ more) = ap (λ (l : List ℕ). l ++ more) (title-split c) ∙ append_assoc (head_bytes c) title more in
    let h = head-after c v (title ++ more) in
    (ap start_of_title shape ∙ ap (λ (n : ℕ). n + 3) h.0, ap title_length shape ∙ ap field_length h.1 ∙ two-number (length c.title) ((c.title ++ tail_bytes c) ++ more))
