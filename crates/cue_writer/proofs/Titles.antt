-- The title of a cue in a book that was written: the book's bytes around it (`book-split`), whatever fields come after the title, and where it stands (`written-title`). Assumes nothing.
use mathlib.Core.Path.{◌≡◌, refl, sym, ap, ap₂, ◌∙◌}
use Prim.Native.Nat.{ℕ, ◌+◌, ◌≤◌, ◌<◌}
use native.Mathlib.Omega.{arith}
use mathlib.Core.Bool.{Bool, cond}
use mathlib.Core.List.{List, [], ◌∷◌, ◌++◌, append_assoc}
use lib.ListN.{length, drop, length-append}
use lib.Seq.{drop-append_seam}
use borrow.Author.Tests.{lt-ltb}
use Rattle.cue_fields.specs.declared.Due.TheVariants.{Title}
use Rattle.cue_fields.specs.Field.{tag_of, two_bytes, field_bytes}
use Rattle.cues.specs.Cue.{Cue, cue_bytes, Valid}
use Rattle.cues.specs.Places.{start_of_title, title_length}
use Rattle.cues.proofs.Titles.{head_bytes, tail_bytes, title-split, title-placed}
use Rattle.cue_book.specs.Book.{book_bytes, AllValid}
use Rattle.cue_book.specs.Places.{cue_place, title_in, front, title_part}
use Rattle.cue_book.proofs.Books.{part-cues}
use Rattle.cue_writer.proofs.Inverse.{written-reads, written-place}

-- ---- cues before others

pub book-append : (before later : List Cue) → book_bytes (before ++ later) ≡ book_bytes before ++ book_bytes later
unfolding book_bytes
book-append [] later = refl
book-append (b ∷ before) later = ap (λ (l : List ℕ). cue_bytes b ++ l) (book-append before later) ∙ sym (append_assoc (cue_bytes b) (book_bytes before) (book_bytes later))

-- a cue among valid ones is valid, and so they are with another valid cue in its place
pub valid-at : (before : List Cue) (c : Cue) (later : List Cue) → AllValid (before ++ c ∷ later) → Valid c
unfolding AllValid
valid-at [] c later v = v.0
valid-at (b ∷ before) c later v = valid-at before c later v.1

pub valid-instead : (before : List Cue) (c d : Cue) (later : List Cue) → AllValid (before ++ c ∷ later) → Valid d → AllValid (before ++ d ∷ later)
unfolding AllValid
valid-instead [] c d later v w = (w, v.1)
valid-instead (b ∷ before) c d later v w = (v.0, valid-instead before c d later v.1 w)

-- ---- a book around the title of a cue

-- its bytes up to the two of the title's length, and those behind the title
abbrev pub up_to_length : List Cue → Cue → List ℕ
up_to_length before c = book_bytes before ++ (head_bytes c ++ tag_of Title ∷ [])

abbrev pub behind_title : Cue → List Cue → List ℕ
behind_title c later = tail_bytes c ++ book_bytes later

pub book-split : (before : List Cue) (c : Cue) (later : List Cue) → book_bytes (before ++ c ∷ later) ≡ up_to_length before c ++ (two_bytes (length c.title) ++ (c.title ++ behind_title c later))
unfolding book_bytes
book-split before c later =
    let title : List ℕ = field_bytes (tag_of Title) c.title in
    let rest : List ℕ = two_bytes (length c.title) ++ (c.title ++ behind_title c later) in
    let cue : cue_bytes c ++ book_bytes later ≡ head_bytes c ++ (tag_of Title ∷ rest) =
    ap (λ (l : List ℕ). l ++ book_bytes later) (title-split c)
    ∙ append_assoc (head_bytes c) (title ++ tail_bytes c) (book_bytes later)
    ∙ ap (λ (l : List ℕ). head_bytes c ++ l) (append_assoc title (tail_bytes c) (book_bytes later)) in
    book-append before (c ∷ later)
    ∙ ap (λ (l : List ℕ). book_bytes before ++ l) (cue ∙ sym (append_assoc (head_bytes c) (tag_of Title ∷ []) rest))
    ∙ sym (append_assoc (book_bytes before) (head_bytes c ++ tag_of Title ∷ []) rest)

-- ---- where the title stands, in the bytes of at most 999 valid cues

pub written-title : (before : List Cue) (c : Cue) (later : List Cue) → AllValid (before ++ c ∷ later) → length (before ++ c ∷ later) ≤ 999
    → title_part (book_bytes (before ++ c ∷ later)) (length before) ≡ record { start = length (book_bytes before) + (length (head_bytes c) + 3); len = length c.title }
unfolding book_bytes
written-title before c later v few =
    let cs : List Cue = before ++ c ∷ later in
    let book : List ℕ = book_bytes cs in
    let k : ℕ = length before in
    let among : k < length cs = omega (arith, length-append before (c ∷ later)) in
    let place = written-place before (c ∷ later) v in
    let here : drop (cue_place book k) book ≡ cue_bytes c ++ book_bytes later =
    ap₂ (λ (n : ℕ) (l : List ℕ). drop n l) place (book-append before (c ∷ later)) ∙ drop-append_seam (book_bytes before) (cue_bytes c ++ book_bytes later) in
    let t = title-placed c (valid-at before c later v) (book_bytes later) in
    part-cues book k (written-reads cs v few)
    ∙ ap (λ (b : Bool). cond b (title_in book k) front) (lt-ltb k (length cs) among)
    ∙ ap₂ (λ (s n : ℕ). record { start = s; len = n }) (ap₂ (λ (p s : ℕ). p + s) place (ap start_of_title here ∙ t.0)) (ap title_length here ∙ t.1)
