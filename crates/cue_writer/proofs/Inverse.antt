-- Demand 2 on the cue book: the bytes of any list of at most 999 valid cues read back as exactly these cues (`written-reads`), each whole at its own place (`written-cue`); whatever byte string is accepted is exactly the bytes of
-- the cues that reading gives (`accepted-written`), so every byte string that is no such book is refused (`others-refused`); and a book put together from written cues reads back
-- (`assembled-reads`). Assumes nothing.
use mathlib.Core.Path.{◌≡◌, refl, sym, ap, ap₂, subst, ◌∙◌}
use Prim.Native.Nat.{ℕ, zero, suc, ◌+◌, ◌-◌, ◌≤◌}
use native.Mathlib.Omega.{arith}
use mathlib.Core.List.{List, [], ◌∷◌, ◌++◌, append_assoc}
use lib.ListN.{length, take, drop, length-append, length-drop}
use lib.Seq.{take-append_seam}
use mathlib.Core.Bool.{cond}
use lib.Dec.{eqb}
use borrow.Author.Tests.{eq-eqb}
use Rattle.matching.proofs.CaseAnalysis.{by-test}
use Rattle.pieces.specs.Pieces.{joined}
use Rattle.cue_fields.specs.Form.{Bytes}
use Rattle.cue_fields.proofs.Form.{bytes_drop}
use Rattle.std.specs.Prelude.{Result}
use Rattle.matching.specs.declared.refusal.Refusal.{Refusal}
use Rattle.cues.specs.declared.Cue as found
use Rattle.cues.specs.declared.Mark.{Mark}
use Rattle.cues.specs.declared.Mark.TheVariants.{Unmarked, Open, HouseOnly}
use Rattle.cues.specs.Cue.{Cue, cue_bytes, Valid}
use Rattle.cues.specs.Reading.{after_cue, cue_size, Apart}
use Rattle.cues.specs.Places.{cue_end, cues_meant, CueRead}
use Rattle.cues.proofs.Cues.{cue-inside, cue-some}
use Rattle.cues.proofs.Values.{cue-back, cue-apart, cue-put}
use Rattle.matching.specs.declared.Answer.{Answer}
use Rattle.cue_book.specs.Book.{book_bytes, AllValid}
use Rattle.cue_book.specs.Reading.{cues, followed, read_up_to, read_book, refusal_of, cues_in}
use Rattle.cue_book.specs.Places.{cue_place}
use Rattle.cue_book.proofs.Books.{read-end, read_next, begins, ends, accepted-book, place-next, cue-there}
use Rattle.cue_writer.specs.Writing.{mark_given, write_refusal}
use Rattle.cue_writer.specs.Inverse.{WroteCue, Assembled, Accepted}
use Rattle.cue_writer.proofs.Writing.{fitting}

-- ---- what is written reads back

-- the bytes of cues stand apart from a cue before them: each begins with the tag of its phrase, and of no cue there is no byte
book-apart : (cs : List Cue) → Apart (book_bytes cs)
unfolding book_bytes
book-apart [] = (λ z. omega (arith, z), λ z. omega (arith, z))
book-apart (c ∷ cs) = cue-apart c (book_bytes cs)

-- the bytes of valid cues, of which there are no more than may be read
reads : (cs : List Cue) (more index : ℕ) → AllValid cs → length cs ≤ more → read_up_to more index (book_bytes cs) ≡ cues cs
unfolding book_bytes AllValid
reads [] more index v h = read-end more index [] refl
reads (c ∷ cs) zero index v h = absurd (omega arith)
reads (c ∷ cs) (suc more) index v h =
    let b = cue-back c v.0 (book_bytes cs) (book-apart cs) in
    let rest : List ℕ = cue_bytes c ++ book_bytes cs in
    read_next more index rest (cue-some rest b.none) b.none
    ∙ ap₂ (λ (d : Cue) (l : List ℕ). followed d (read_up_to more (suc index) l)) b.value b.after
    ∙ ap (followed c) (reads cs more (suc index) v.1 (omega arith))

-- the bytes of any list of at most 999 valid cues read back as exactly these cues
pub written-reads : (cs : List Cue) → AllValid cs → length cs ≤ 999 → read_book (book_bytes cs) ≡ cues cs
unfolding read_book
written-reads cs v h = reads cs 999 0 v h

-- a valid cue takes as many bytes as it has, before anything that stands apart
cue-length : (c : Cue) → Valid c → (more : List ℕ) → Apart more → cue_size (cue_bytes c ++ more) ≡ length (cue_bytes c)
cue-length c v more apart =
    let b = cue-back c v more apart in
    let rest : List ℕ = cue_bytes c ++ more in
    let left : length rest - cue_size rest ≡ length more = sym (length-drop (cue_size rest) rest) ∙ ap length b.after in
    omega (arith, left, cue-inside rest b.none, length-append (cue_bytes c) more)

-- the cue after these begins where their bytes end
pub written-place : (before later : List Cue) → AllValid (before ++ later) → cue_place (book_bytes (before ++ later)) (length before) ≡ length (book_bytes before)
unfolding book_bytes AllValid cue_place
written-place [] later v = refl
written-place (b ∷ before) later v =
    let more : List ℕ = book_bytes (before ++ later) in
    let apart : Apart more = book-apart (before ++ later) in
    place-next (cue_bytes b ++ more) (length before)
    ∙ ap₂ (λ (n : ℕ) (l : List ℕ). n + cue_place l (length before)) (cue-length b v.0 more apart) (cue-back b v.0 more apart).after
    ∙ ap (λ (n : ℕ). length (cue_bytes b) + n) (written-place before later v.1)
    ∙ sym (length-append (cue_bytes b) (book_bytes before))

-- `read_cue` where a cue's bytes begin in such a book gives that cue, whole, and ends where they end
pub written-cue : (before : List Cue) (c : Cue) (later : List Cue) → AllValid (before ++ c ∷ later) → length (before ++ c ∷ later) ≤ 999 → {r : Result found.Cue Refusal}
    → CueRead (book_bytes (before ++ c ∷ later)) (length (book_bytes before)) r
    → (cues_meant (book_bytes (before ++ c ∷ later)) r ≡ c ∷ []) × (cue_end r ≡ length (book_bytes (before ++ c ∷ [])))
written-cue before c later v h {r} read =
    let cs : List Cue = before ++ c ∷ later in
    let split : (before ++ c ∷ []) ++ later ≡ cs = append_assoc before (c ∷ []) later in
    let one : length (before ++ c ∷ []) ≡ suc (length before) = length-append before (c ∷ []) ∙ omega arith in
    let back = cue-there (book_bytes cs) before c later (written-reads cs v h) (subst (λ (place : ℕ). CueRead (book_bytes cs) place r) (sym (written-place before (c ∷ later) v)) read) in
    let end : cue_place (book_bytes cs) (suc (length before)) ≡ length (book_bytes (before ++ c ∷ [])) =
    ap₂ (λ (l : List Cue) (n : ℕ). cue_place (book_bytes l) n) (sym split) (sym one) ∙ written-place (before ++ c ∷ []) later (subst AllValid (sym split) v) in
    (back.meant, back.next ∙ end)

-- ---- what is accepted was so written

accepts : (cs : List Cue) (more index : ℕ) (rest : List ℕ) → Bytes rest → read_up_to more index rest ≡ cues cs → Accepted rest cs more
unfolding book_bytes AllValid
accepts [] more index rest b e = record { is = nothing rest (ends more index rest e); valid = tt; few = omega arith }
  where
    nothing : (l : List ℕ) → length l ≡ 0 → l ≡ []
    nothing [] e = refl
    nothing (x ∷ l) e = absurd (omega arith)
accepts (c ∷ cs) more index rest b e =
    let g = begins more index rest c cs e in
    let p = cue-put rest b g.none in
    let a = accepts cs g.fewer (suc index) (after_cue rest) (bytes_drop rest (cue_size rest) b) g.then in
    record {
      is = p.is ∙ ap₂ (λ (d : Cue) (l : List ℕ). cue_bytes d ++ l) g.cue a.is;
      valid = (subst Valid g.cue p.valid, a.valid);
      few = omega (arith, g.fewer-is, a.few);
    }

-- whatever byte string is accepted is exactly the bytes of the cues that reading gives, which are at most 999 valid ones
pub accepted-written : (book : List ℕ) → Bytes book → (cs : List Cue) → read_book book ≡ cues cs → Accepted book cs 999
unfolding read_book
accepted-written book b cs e = accepts cs 999 0 book b e

-- so every byte string that is no such book is refused
pub others-refused : (book : List ℕ) → Bytes book → ((cs : List Cue) → Accepted book cs 999 → ⊥) → refusal_of (read_book book) ≡ 0 → ⊥
others-refused book b other z = other (cues_in (read_book book)) (accepted-written book b (cues_in (read_book book)) (accepted-book book z).0)

-- ---- writer and reader fit

-- what writing a cue put at its buffer's start is the cue's bytes, and the cue is valid
pub wrote-bytes : {c : Cue} {bytes : List ℕ} → WroteCue c bytes → (bytes ≡ cue_bytes c) × Valid c
wrote-bytes {c} {bytes} w =
    let none : write_refusal c w.house (length w.buffer) ≡ 0 = sym (ap (λ (a : Answer). a.refusal) w.wrote.answer) ∙ w.accepted in
    let on = eq-eqb (write_refusal c w.house (length w.buffer)) 0 none in
    let number : w.answer.number ≡ length (cue_bytes c) = ap (λ (a : Answer). a.number) w.wrote.answer ∙ rw on in
    let left : w.buffer' ≡ cue_bytes c ++ drop (length (cue_bytes c)) w.buffer = w.wrote.left ∙ rw on in
    (w.is ∙ ap₂ (λ (n : ℕ) (l : List ℕ). take n l) number left ∙ take-append_seam (cue_bytes c) (drop (length (cue_bytes c)) w.buffer), (fitting c w.house (length w.buffer) none).valid)

-- no cue that was written carries an explicit 0, though a book may
pub never-explicit : {c : Cue} {bytes : List ℕ} → WroteCue c bytes → c.mark ≡ Open → ⊥
unfolding mark_given
never-explicit w e = not-given w.house (sym w.given ∙ e)
  where
    told : Mark → ℕ
    told Unmarked = 0
    told Open = 1
    told HouseOnly = 2

    not-given : (house : ℕ) → mark_given house ≡ Open → ⊥
    not-given house = by-test (λ t. cond t Unmarked HouseOnly ≡ Open → ⊥) (eqb house 0) (λ _ e. omega (arith, ap told e)) (λ _ e. omega (arith, ap told e))

-- so a book put together from written cues is their bytes
pub assembled-bytes : (cs : List Cue) (pieces : List (List ℕ)) → Assembled cs pieces → (joined pieces ≡ book_bytes cs) × AllValid cs
unfolding Assembled joined book_bytes AllValid
assembled-bytes [] [] a = (refl, tt)
assembled-bytes [] (bytes ∷ pieces) a = absurd a
assembled-bytes (c ∷ cs) [] a = absurd a
assembled-bytes (c ∷ cs) (bytes ∷ pieces) a =
    let w = wrote-bytes a.0 in
    let r = assembled-bytes cs pieces a.1 in
    (ap₂ (λ (x y : List ℕ). x ++ y) w.0 r.0, (w.1, r.1))

-- a book put together from at most 999 written cues reads back as the cues written
pub assembled-reads : (cs : List Cue) (pieces : List (List ℕ)) → Assembled cs pieces → length cs ≤ 999 → read_book (joined pieces) ≡ cues cs
assembled-reads cs pieces a h = let r = assembled-bytes cs pieces a in ap read_book r.0 ∙ written-reads cs r.1 h
