-- Demand 2 on the resolver, for what a caller has: a resolve that gives 0 has every cue at the occurrence that it names, and their places rise (`all-out`); one that gives 12 or 15 has every cue before the
-- named one, whose occurrence does not exist (`one-missing`), or does not stand above that of the cue before it (`one-falling`); all say how often the text was read; one that gives any other refusal has
-- read nothing and left all as before (`idle`); a book in which only the chosen cues stand gives the same, but for the numbers that name them (`playing-alone`); a guest gets the same of two books whose open cues are the same (`secrecy`); and a text folded beforehand gives the same (`folded-before`). Each is the law of any fold (`law` of `outcome`) for the fold of the call's page (`page-law`),
-- since that one changes nothing the second time and keeps line ends. Assumes nothing.
use mathlib.Core.Path.{◌≡◌, refl, sym, ap, subst, ◌∙◌}
use Prim.Native.Nat.{ℕ}
use native.Mathlib.Omega.{arith}
use mathlib.Core.List.{List, map}
use Rattle.matching.specs.Received.{received}
use Rattle.matching.proofs.Received.{received_none}
use Rattle.roles.specs.Roles.{guest}
use Rattle.fold.specs.Fold.{fold_on}
use Rattle.fold.proofs.Fold.{page-twice, page-control}
use Rattle.cues.specs.declared.Choice.{Choice}
use Rattle.cues.specs.Cue.{Cue}
use Rattle.cue_book.specs.Reading.{cues, read_book, seen, playing_for}
use Rattle.line_column.proofs.Lines.{lines-kept}
use Rattle.outcome.specs.Outcome.{Call, Outcome, outcome}
use Rattle.outcome.specs.Told.{KeepsLines, AllOut, OneFaulty, Missing, Falling, Another, open_cues, Law}
use Rattle.outcome.proofs.Law.{law}
use Rattle.resolver.specs.declared.Resolving.{Resolving}
use Rattle.resolver.specs.Resolver.{call, comes_to, answer_of, Resolved, OnlyPlaying}

-- ---- the pages

pub page-law : (page : ℕ) → Law (fold_on page)
page-law page = law (fold_on page) (page-twice page)

-- 10 and 13 stand where they stood
pub page-keeps : (page : ℕ) → KeepsLines (fold_on page)
page-keeps page = lines-kept (fold_on page) (page-control page 10 (omega arith)) (page-control page 13 (omega arith))

-- ---- each cue comes out

module _ {who : Choice} {page : ℕ} {book text copy scratch entries : List ℕ} {r : Resolving} {copy' scratch' entries' : List ℕ} (made : Resolved who page book text copy scratch entries r copy' scratch' entries') where
  abbrev called : Call
  called = call who page text copy scratch entries

  pub all-out : r.refusal ≡ 0 → AllOut (fold_on page) text who book entries' r.number r.reads
  all-out z = rw (made.answer, made.entered) ((page-law page).all-out called book entries refl (sym (ap (λ (a : Resolving). a.refusal) made.answer) ∙ z))

  pub one-missing : r.refusal ≡ 12 → OneFaulty (fold_on page) text who (Missing (fold_on page) text) book entries' r.number r.reads
  one-missing z = rw (made.answer, made.entered) ((page-law page).one-missing called book entries refl (sym (ap (λ (a : Resolving). a.refusal) made.answer) ∙ z))

  pub one-falling : r.refusal ≡ 15 → OneFaulty (fold_on page) text who (Falling (fold_on page) text) book entries' r.number r.reads
  one-falling z = rw (made.answer, made.entered) ((page-law page).one-falling called book entries refl (sym (ap (λ (a : Resolving). a.refusal) made.answer) ∙ z))

  -- ---- any other refusal

  pub idle : Another r.refusal → (r.reads ≡ 0) × ((copy' ≡ copy) × ((scratch' ≡ scratch) × (entries' ≡ entries)))
  idle other =
      let i = (page-law page).idle called (read_book book) (subst Another (ap (λ (a : Resolving). a.refusal) made.answer) other) in
      (ap (λ (a : Resolving). a.reads) made.answer ∙ i.reads, (made.copied ∙ rw i.works, (made.emptied ∙ rw i.works, made.entered ∙ rw i.written (received_none entries))))

  -- ---- a book in which only the chosen cues stand, in a call otherwise alike, gives the same back but for the number that names a cue, and leaves the lent memory the same

  pub playing-alone : {whole : List Cue} {book₂ : List ℕ} → read_book book ≡ cues whole → read_book book₂ ≡ cues (playing_for who whole) → {r₂ : Resolving} {copy₂' scratch₂' entries₂' : List ℕ}
      → Resolved who page book₂ text copy scratch entries r₂ copy₂' scratch₂' entries₂' → OnlyPlaying who.day (seen who.role whole) r r₂ × ((copy' ≡ copy₂') × ((scratch' ≡ scratch₂') × (entries' ≡ entries₂')))
  playing-alone {whole} {book₂} read read₂ {r₂} alone =
      let p = (page-law page).playing-alone called whole in
      let o : Outcome = outcome (fold_on page) called (cues whole) in
      let o₂ : Outcome = outcome (fold_on page) called (cues (playing_for who whole)) in
      let is : comes_to book called ≡ o = ap (outcome (fold_on page) called) read in
      let is₂ : comes_to book₂ called ≡ o₂ = ap (outcome (fold_on page) called) read₂ in
      let answer : r ≡ answer_of o.resolution = made.answer ∙ ap (λ (x : Outcome). answer_of x.resolution) is in
      let answer₂ : r₂ ≡ answer_of o₂.resolution = alone.answer ∙ ap (λ (x : Outcome). answer_of x.resolution) is₂ in (
        rw (answer, answer₂) (record { refusal = p.refusal; reads = p.reads; number = p.number; named = p.named }),
        (
          made.copied ∙ rw (is, p.works) (sym (alone.copied ∙ rw is₂)),
          (made.emptied ∙ rw (is, p.works) (sym (alone.emptied ∙ rw is₂)), made.entered ∙ rw (is, p.written) (sym (alone.entered ∙ rw is₂))),
        ),
      )

  -- ---- a guest, of two books that read and whose open cues are the same, in calls otherwise alike, gets the same refusal, number and reads, and the lent memory is left the same

  pub secrecy : who.role ≡ guest → {one other : List Cue} {book₂ : List ℕ} → read_book book ≡ cues one → read_book book₂ ≡ cues other → open_cues one ≡ open_cues other
      → {r₂ : Resolving} {copy₂' scratch₂' entries₂' : List ℕ} → Resolved who page book₂ text copy scratch entries r₂ copy₂' scratch₂' entries₂'
      → (r ≡ r₂) × ((copy' ≡ copy₂') × ((scratch' ≡ scratch₂') × (entries' ≡ entries₂')))
  secrecy guests {one} {other} {book₂} read read₂ open-same second =
      let same : comes_to book called ≡ comes_to book₂ called =
      ap (outcome (fold_on page) called) read ∙ (page-law page).secrecy called one other guests open-same ∙ sym (ap (outcome (fold_on page) called) read₂) in (
        made.answer ∙ ap (λ (o : Outcome). answer_of o.resolution) same ∙ sym second.answer,
        (
          made.copied ∙ rw same (sym second.copied),
          (made.emptied ∙ rw same (sym second.emptied), made.entered ∙ rw same (sym second.entered)),
        ),
      )

  -- ---- a text folded beforehand, in a call otherwise alike, gives the same back and the same entries

  pub folded-before : {r₂ : Resolving} {copy₂' scratch₂' entries₂' : List ℕ} → Resolved who page book (map (fold_on page) text) copy scratch entries r₂ copy₂' scratch₂' entries₂'
      → (r₂ ≡ r) × (entries₂' ≡ entries')
  folded-before again =
      let same = (page-law page).same_lines (page-keeps page) called (read_book book) in (
        again.answer ∙ ap (λ (o : Outcome). answer_of o.resolution) same ∙ sym made.answer,
        again.entered ∙ ap (λ (o : Outcome). received entries o.resolution.written) same ∙ sym made.entered,
      )
