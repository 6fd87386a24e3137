-- Each return before the last is a refusal of the table, in its order, and the last lays out the pieces that are the new book. Where the title was found tells where the pieces end and begin (`Stands`).
use Rattle.std.proofs.Common.{◌≡◌, ◌+◌, ◌-◌, ◌≤◌, ◌<◌, ℕ, List, length, take, drop, arith, rules}
use Rattle.std.specs.Prelude.{Ok, Err}
use mathlib.Core.Path.{sym, ap, ◌∙◌}
use lib.ListN.{length-drop}
use lib.Seq.{length-take-le}
use Rattle.matching.specs.declared.Answer.{Answer}
use Rattle.matching.specs.Refusals.{first_met}
use Rattle.matching.proofs.Find.{number-some}
use Rattle.matching.proofs.Parts.{from_is}
use Rattle.cue_book.specs.declared.Part.{Part}
use Rattle.cue_book.specs.declared.TitleRead.{TitleRead}
use Rattle.cue_book.specs.Reading.{read_book, refusal_of, number_of}
use Rattle.cue_book.specs.Places.{TitleFound}
use Rattle.cue_book.proofs.Books.{accepted-book, book-most, title-shows}
use Rattle.retitle.specs.Retitling.{call_tests}
use Rattle.retitle.proofs.Retitling.{fault-given, tests-given, tests-passed, put-given, title-header}
use Rattle.retitle.proofs.retitle.Goals as goal

-- what was found is of a book that is read, and has so many cues
read : {book : List ℕ} {cue : ℕ} {found : TitleRead} → TitleFound book cue (Ok found) → refusal_of (read_book book) ≡ 0
read f = sym (ap (λ (a : Answer). a.refusal) f.answer)

many : {book : List ℕ} {cue : ℕ} {found : TitleRead} → TitleFound book cue (Ok found) → found.cues ≡ number_of (read_book book)
many f = ap (λ (a : Answer). a.number) f.answer

-- where the title of a cue of the book stands: its header before it, and all of it in the book
record Stands (book title : List ℕ) (cue : ℕ) (found : TitleRead) : Type 0 where
  short : length title ≤ 200
  among : cue < number_of (read_book book)
  header : 3 ≤ found.title.start
  inside : found.title.start + found.title.len ≤ length book

stands : {book : List ℕ} {cue : ℕ} {found : TitleRead} (title : List ℕ) → TitleFound book cue (Ok found) → 0 ≡ first_met (call_tests title found.cues cue) → Stands book title cue found
stands {book} {cue} {found} title f passed =
    let s = ap (λ (p : Part). p.start) f.part in
    let l = ap (λ (p : Part). p.len) f.part in
    let t = tests-passed title found.cues cue passed in
    let among : cue < number_of (read_book book) = omega (arith, t.1, many f) in
    record {
      short = t.0;
      among = among;
      header = omega (arith, s, title-header book cue (read f) among);
      inside = omega (arith, s, l, (title-shows book cue).inside);
    }

pub returns-in_err-found : goal.returns-in_err-found
returns-in_err-found c =
    let is : c.from_residual.result ≡ Err c.in_err-found.field-0.0 = search rules in
    let e = c.in_err-found.ensures.answer in
    rw is (fault-given (ap (λ (a : Answer). a.refusal) e) (λ z. omega (arith, z, number-some c.in_err-found.field-0.0.refusal)) (ap (λ (a : Answer). a.number) e))

pub returns-in_err-title_refused : goal.returns-in_err-title_refused
returns-in_err-title_refused c =
    let is : c.from_residual-in_err-title_refused.result ≡ Err (record { refusal = c.in_err-title_refused.field-0.0; number = 0 }) = search rules in
    rw is (tests-given (read c.in_ok-found.ensures) (many c.in_ok-found.ensures) c.in_err-title_refused.field-0.0 c.in_err-title_refused.ensures)

pub overflow_sub-start : goal.overflow_sub-start
overflow_sub-start c = omega (arith, (stands c.args.title.now c.in_ok-found.ensures c.in_ok-title_refused.ensures).header)

pub overflow_add-end : goal.overflow_add-end
overflow_add-end c = omega (arith, (stands c.args.title.now c.in_ok-found.ensures c.in_ok-title_refused.ensures).inside)

pub slice_bounds-put_book-end : goal.slice_bounds-put_book-end
slice_bounds-put_book-end c =
    let s = stands c.args.title.now c.in_ok-found.ensures c.in_ok-title_refused.ensures in
    sym (length-take-le (c.in_ok-found.found.title.start - 2) c.args.book.now (omega (arith, s.inside)))

pub slice_bounds-put_book-count : goal.slice_bounds-put_book-count
slice_bounds-put_book-count c = (stands c.args.title.now c.in_ok-found.ensures c.in_ok-title_refused.ensures).inside

pub slice_bounds-put_book-start : goal.slice_bounds-put_book-start
slice_bounds-put_book-start c = (stands c.args.title.now c.in_ok-found.ensures c.in_ok-title_refused.ensures).inside

pub put_book-requires-clause-short : goal.put_book-requires-clause-short
put_book-requires-clause-short c = (stands c.args.title.now c.in_ok-found.ensures c.in_ok-title_refused.ensures).short

pub put_book-requires-clause-fits : goal.put_book-requires-clause-fits
put_book-requires-clause-fits c =
    let book : List ℕ = c.args.book.now in
    let s = stands c.args.title.now c.in_ok-found.ensures c.in_ok-title_refused.ensures in
    let start = c.in_ok-found.found.title.start in
    let end = start + c.in_ok-found.found.title.len in
    omega (arith, s.inside, s.header, length-take-le (start - 2) book (omega (arith, s.inside)), ap length (from_is book end), length-drop end book, book-most book (λ i. omega (arith, c.type_inv.book i)) (accepted-book book (read c.in_ok-found.ensures)).0)

pub returns-in_err-put_book : goal.returns-in_err-put_book
returns-in_err-put_book c =
    let is : c.from_residual-in_err-put_book.result ≡ Err (record { refusal = c.in_err-put_book.field-0.0; number = 0 }) = search rules in
    let s = stands c.args.title.now c.in_ok-found.ensures c.in_ok-title_refused.ensures in
    let found = c.in_ok-found.found in
    let part = c.in_ok-found.ensures.part in
    rw is
    (put-given (read c.in_ok-found.ensures) s.short s.among
    (ap (λ (p : Part). take (p.start - 2) c.args.book.now) part)
    (from_is c.args.book.now (found.title.start + found.title.len) ∙ ap (λ (p : Part). drop (p.start + p.len) c.args.book.now) part)
    c.in_err-put_book.ensures)

pub returns : goal.returns
returns c =
    let s = stands c.args.title.now c.in_ok-found.ensures c.in_ok-title_refused.ensures in
    let found = c.in_ok-found.found in
    let part = c.in_ok-found.ensures.part in
    put-given (read c.in_ok-found.ensures) s.short s.among
    (ap (λ (p : Part). take (p.start - 2) c.args.book.now) part)
    (from_is c.args.book.now (found.title.start + found.title.len) ∙ ap (λ (p : Part). drop (p.start + p.len) c.args.book.now) part)
    c.in_ok-put_book.ensures
