-- An engine's line from its find, and the lines of all engines. Assumes nothing.
use mathlib.Core.Path.{◌≡◌, refl, sym, ap, ap₂, ◌∙◌}
use Prim.Native.Nat.{ℕ, zero, suc, ◌+◌, ◌≤◌, ◌<◌}
use native.Mathlib.Omega.{arith}
use native.Mathlib.Numerals.{add-one}
use mathlib.Core.List.{List, [], ◌∷◌, ◌++◌, append-nil, append_assoc}
use lib.ListN.{length, get_or, take}
use lib.Seq.{take_all}
use borrow.Author.Tests.{eq-eqb, ne_eqb}
use Rattle.matching.specs.declared.Finding.{Finding}
use Rattle.matching.specs.Occurrences.{occurrences}
use Rattle.matching.specs.Find.{Engine, Found, compared, refusal, refusal_of}
use Rattle.matching.proofs.Find.{within, none-refused, number-some, found-answer, found-listed}
use Rattle.naive.specs.Naive.{naive}
use Rattle.std.proofs.Common.{Ok, Err}
use Rattle.matching.specs.declared.Tally.{Tally}
use Rattle.matching.specs.declared.refusal.Refusal.{Refusal}
use Rattle.matching.specs.Results.{finding}
use Rattle.find.specs.declared.Method.{Method}
use Rattle.find.specs.declared.Method.TheVariants.{Naive, Kmp, Horspool, Sunday, Fjs, DoubleWindow, BoyerMoore, ImprovedFjs}
use Rattle.find.specs.Find.{engine_by}
use Rattle.pieces.specs.Pieces.{put_all, Laid}
use Rattle.pieces.proofs.Laid.{laid_none, laid_then}
use Rattle.finder_lines.specs.Lines.{field, fields, line_of, refused_line}
use Rattle.finder_lines.proofs.Fields.{fields-received}
use Rattle.finder_answer.specs.Answered.{Row, rows, row_at, engine_line, engine_lines, answered}

-- 2,306 scratch entries are enough for every method
entries-enough : (method : Method) (m : ℕ) → m ≤ 1024 → (engine_by method).entries m ≤ 2306
entries-enough Naive m k = omega arith
entries-enough Kmp m k = omega arith
entries-enough Horspool m k = omega arith
entries-enough Sunday m k = omega arith
entries-enough Fjs m k = omega arith
entries-enough DoubleWindow m k = omega arith
entries-enough BoyerMoore m k = omega arith
entries-enough ImprovedFjs m k = omega arith

accepted : (e : Engine) (P T scratch : List ℕ) → (length P ≤ 1024 → e.entries (length P) ≤ 2306) → length scratch ≡ 2306 → refusal (length P) (length T) 0 0 ≡ 0 → refusal_of e P T scratch ≡ 0
accepted e P T scratch enough long none =
    let limits = within (length P) (length T) 0 0 none in
    none-refused (length P) (length T) (length scratch) (e.entries (length P)) (record { some = limits.some; short = limits.short; small = limits.small; room = omega (arith, enough limits.short) })

-- so no find is refused
pub found-some : (method : Method) (e : Refusal) {P T scratch list : List ℕ} {scratch' list' : List ℕ} → Found (engine_by method) P T scratch list (finding (Err e)) scratch' list' → length scratch ≡ 2306
    → refusal (length P) (length T) 0 0 ≡ 0 → ⊥
found-some method e {P} {T} {scratch} f long none =
    omega (arith, number-some e, ap (λ (x : Finding). x.refusal) (found-answer f (accepted (engine_by method) P T scratch (entries-enough method (length P)) long none)))

-- the line of what a find gave and left is the engine's, whichever engine has entries enough
pub engine-found : (e : Engine) {P T scratch list : List ℕ} {r : Finding} {scratch' list' : List ℕ} (name : List ℕ) → (length P ≤ 1024 → e.entries (length P) ≤ 2306) → Found e P T scratch list r scratch' list'
    → length scratch ≡ 2306 → length list ≡ 4096 → refusal (length P) (length T) 0 0 ≡ 0 → line_of name r.total r.comparisons list' ≡ engine_line (record { name = name; engine = e }) P T
unfolding engine_line line_of
engine-found e {P} {T} {scratch} {list} {r} {scratch'} {list'} name enough f long places none =
    let found : List ℕ = occurrences P T in
    let free = accepted e P T scratch enough long none in
    ap₂ (λ (x : Finding) (l : List ℕ). line_of name x.total x.comparisons l) (found-answer f free) (found-listed f free)
    ∙ ap (λ (l : List (List ℕ)). name ∷ field (length found) ∷ field (compared e P T) ∷ (l ++ ((10 ∷ []) ∷ [])))
    (fields-received list found ∙ ap (λ (n : ℕ). fields (length found) (take n found)) places)

pub found-line : (method : Method) {P T scratch list : List ℕ} {t : Tally} {scratch' list' : List ℕ} (name : List ℕ) → Found (engine_by method) P T scratch list (finding (Ok t)) scratch' list'
    → length scratch ≡ 2306 → length list ≡ 4096 → refusal (length P) (length T) 0 0 ≡ 0
    → line_of name t.total t.comparisons list' ≡ engine_line (record { name = name; engine = engine_by method }) P T
found-line method {P} name f long places none = engine-found (engine_by method) name (entries-enough method (length P)) f long places none

-- as many rows as the code goes through
pub row_count : length rows ≡ 8
unfolding rows
row_count = refl

module _ (P T : List ℕ) where
  -- the lines of one row more
  lines_more : (these : List Row) (number : ℕ) (other : Row) → number < length these → engine_lines (take (suc number) these) P T ≡ engine_lines (take number these) P T ++ engine_line (get_or these number other) P T
  unfolding engine_lines
  lines_more [] number other h = absurd (omega arith)
  lines_more (row ∷ others) zero other h = append-nil (engine_line row P T)
  lines_more (row ∷ others) (suc number) other h =
      ap (λ (l : List (List ℕ)). engine_line row P T ++ l) (lines_more others number other (omega arith))
      ∙ sym (append_assoc (engine_line row P T) (engine_lines (take number others) P T) (engine_line (get_or others number other) P T))

  -- the rows before that number are laid: none yet, one more, and all
  pub rows_none : (buffer : List ℕ) → Laid buffer 0 (put_all buffer 0 (engine_lines (take 0 rows) P T))
  unfolding engine_lines
  rows_none buffer = laid_none buffer 0

  pub rows_more : (buffer₀ : List ℕ) (number : ℕ) {buffer buffer' : List ℕ} {r r' : ℕ} → number < length rows → Laid buffer r (put_all buffer₀ 0 (engine_lines (take number rows) P T))
      → Laid buffer' r' (put_all buffer r (engine_line (row_at number) P T)) → Laid buffer' r' (put_all buffer₀ 0 (engine_lines (take (number + 1) rows) P T))
  rows_more buffer₀ number h l m =
      rw (add-one, lines_more rows number (record { name = []; engine = naive }) h) (laid_then buffer₀ 0 (engine_lines (take number rows) P T) (engine_line (row_at number) P T) l m)

  pub rows_all : (buffer₀ : List ℕ) (number : ℕ) {buffer : List ℕ} {r : ℕ} → length rows ≤ number → Laid buffer r (put_all buffer₀ 0 (engine_lines (take number rows) P T))
      → Laid buffer r (put_all buffer₀ 0 (engine_lines rows P T))
  rows_all buffer₀ number h l = rw (← take_all number rows h) l

  -- what is answered: a refusal, and no refusal
  pub answered-refused : {number : ℕ} → number ≡ refusal (length P) (length T) 0 0 → (number ≡ 0 → ⊥) → answered P T ≡ refused_line number
  unfolding answered
  answered-refused is some = rw (ne_eqb (refusal (length P) (length T) 0 0) 0 (λ z. some (is ∙ z)), is)

  pub answered-lines : refusal (length P) (length T) 0 0 ≡ 0 → answered P T ≡ engine_lines rows P T
  unfolding answered
  answered-lines none = rw (eq-eqb (refusal (length P) (length T) 0 0) 0 none)
