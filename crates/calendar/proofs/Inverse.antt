-- The two conversions are inverse: of the definitions (`date-of-day`, `day-of-date`), and of what the calls promise (`day-and-back`, `date-and-back`). Assumes nothing.
use mathlib.Core.Path.{◌≡◌, refl, sym, ap, ◌∙◌}
use Prim.Native.Nat.{ℕ, zero, suc, ◌+◌, ◌-◌, ◌≤◌, ◌<◌}
use native.Mathlib.Omega.{arith}
use mathlib.Core.Bool.{true, ◌&&◌}
use lib.Dec.{leb}
use borrow.Author.Tests.{leb-true, le-leb, lt-leb}
use Rattle.std.specs.Prelude.{Err}
use Rattle.matching.specs.declared.Answer.{Answer}
use Rattle.matching.specs.declared.refusal.Refusal.{Refusal}
use Rattle.matching.specs.Results.{number_of}
use Rattle.matching.proofs.CaseAnalysis.{by-test, both}
use Rattle.matching.proofs.Find.{number-some}
use Rattle.calendar.specs.declared.CalendarDate.{CalendarDate}
use Rattle.calendar.specs.declared.dates.Date.{Date}
use Rattle.calendar.specs.declared.Within.{Within}
use Rattle.calendar.specs.Calendar.{year_length, month_length, ymd, in_calendar, date_of, years_days, months_days, day_of, last_day, day_refusal, day_answer, date_answer, calendar_date}
use Rattle.calendar.specs.Found.{YearAt, MonthAt}
use Rattle.calendar.proofs.Days.{day-late}
use Rattle.calendar.proofs.Counting.{year-months, months-more, years-more, months-up, years-up, years-fewer, all-days, Sound, next-counts}

-- ---- every number counts on to a date of that number

counted : (n : ℕ) → Sound (date_of n) × (day_of (date_of n) ≡ n)
unfolding month_length date_of day_of years_days months_days
counted zero = (record { since = omega arith; month-first = omega arith; month-last = omega arith; day-first = omega arith; day-last = omega arith }, refl)
counted (suc n) = let c = counted n in let s = next-counts c.0 in (s.0, s.1 ∙ ap suc c.1)

-- ---- two dates have two numbers

-- the days of the year before a date are not the whole year
inside-year : {d : Date} → Sound d → months_days d.year (d.month - 1) + (d.day - 1) < year_length d.year
inside-year {d} s =
    omega (
      arith,
      s.day-first,
      s.day-last,
      months-more d.year d.month d.month s.month-first refl,
      months-up d.year d.month 12 s.month-last,
      year-months d.year,
    )

module _ {d e : Date} (s : Sound d) (s' : Sound e) where
  -- an earlier year, or an earlier month of the same year, has the smaller number
  earlier-year : d.year < e.year → day_of d < day_of e
  unfolding day_of
  earlier-year h =
      omega (
        arith,
        inside-year s,
        years-more d.year (suc (d.year - 2000)) s.since refl,
        years-up (suc (d.year - 2000)) (e.year - 2000) (omega (arith, s.since)),
      )

  earlier-month : d.year ≡ e.year → d.month < e.month → day_of d < day_of e
  unfolding day_of
  earlier-month year h =
      omega (
        arith,
        ap (λ (y : ℕ). years_days (y - 2000)) year,
        ap (λ (y : ℕ). months_days y (e.month - 1)) year,
        s.day-first,
        s.day-last,
        months-more d.year d.month d.month s.month-first refl,
        months-up d.year d.month (e.month - 1) (omega arith),
      )

  -- and in the same month the same number is the same day
  same-day : d.year ≡ e.year → d.month ≡ e.month → day_of d ≡ day_of e → d.day ≡ e.day
  unfolding day_of
  same-day year month number =
      omega (
        arith,
        ap (λ (y : ℕ). years_days (y - 2000)) year,
        ap (λ (y : ℕ). months_days y (d.month - 1)) year,
        ap (λ (m : ℕ). months_days e.year (m - 1)) month,
        s.day-first,
        s'.day-first,
      )

-- a number that is neither smaller nor larger than another
neither-way : {a b : ℕ} → (a < b → ⊥) → (b < a → ⊥) → a ≡ b
neither-way f g = omega (arith, f, g)

-- so they are one date if their numbers are one
same_number : {d e : Date} → Sound d → Sound e → day_of d ≡ day_of e → d ≡ e
same_number {d} {e} s s' number =
    let year : d.year ≡ e.year = neither-way (λ h. omega (arith, earlier-year s s' h)) (λ h. omega (arith, earlier-year s' s h)) in
    let month : d.month ≡ e.month = neither-way (λ h. omega (arith, earlier-month s s' year h)) (λ h. omega (arith, earlier-month s' s (sym year) h)) in
    let day : d.day ≡ e.day = same-day s s' year month number in
    rw (year, month, day)

-- and a date is what its number counts on to
found : {d : Date} → Sound d → (n : ℕ) → day_of d ≡ n → date_of n ≡ d
found s n number = let c = counted n in same_number c.0 s (c.1 ∙ sym number)

-- where the year and the month of a day are found, they are its date's
pub walked : {day : ℕ} {y m : Within} {n : ℕ} → YearAt day y → MonthAt y.number y.days m → n ≡ m.days + 1 → date_of day ≡ ymd y.number m.number n
unfolding day_of
walked {day} {y} {m} a b e =
    found
    (record { since = a.since; month-first = b.first; month-last = b.last; day-first = omega arith; day-last = omega (arith, b.inside) })
    day
    (omega (arith, a.before, b.before))

-- ---- the calendar's years

module _ {d : Date} (s : Sound d) where
  -- a date is of one of them exactly if its number is at most the last
  sound-most : d.year ≤ 2099 → day_of d ≤ last_day
  unfolding day_of
  sound-most h =
      omega
      (arith, inside-year s, years-more d.year (suc (d.year - 2000)) s.since refl, years-up (suc (d.year - 2000)) 100 (omega (arith, s.since)), all-days)

  sound-year : day_of d ≤ last_day → d.year ≤ 2099
  unfolding day_of
  sound-year h = omega (arith, years-fewer (d.year - 2000) 100 (omega (arith, all-days)))

  -- and then the calendar's test passes
  sound-in : d.year ≤ 2099 → in_calendar d ≡ true
  unfolding in_calendar
  sound-in h =
      rw (
        le-leb 2000 d.year s.since,
        le-leb d.year 2099 h,
        le-leb 1 d.month s.month-first,
        le-leb d.month 12 s.month-last,
        le-leb 1 d.day s.day-first,
        le-leb d.day (month_length d.year d.month) s.day-last,
      )

-- which tests nothing else
pub in-sound : (d : Date) → in_calendar d ≡ true → Sound d × (d.year ≤ 2099)
unfolding in_calendar
in-sound d e =
    let year-first = leb 2000 d.year in
    let year-last = leb d.year 2099 in
    let month-first = leb 1 d.month in
    let month-last = leb d.month 12 in
    let day-first = leb 1 d.day in
    let day-last = leb d.day (month_length d.year d.month) in
    let p₅ = both (year-first && year-last && month-first && month-last && day-first) day-last e in
    let p₄ = both (year-first && year-last && month-first && month-last) day-first p₅.0 in
    let p₃ = both (year-first && year-last && month-first) month-last p₄.0 in
    let p₂ = both (year-first && year-last) month-first p₃.0 in
    let p₁ = both year-first year-last p₂.0 in (
      record {
        since = leb-true 2000 d.year p₁.0;
        month-first = leb-true 1 d.month p₂.1;
        month-last = leb-true d.month 12 p₃.1;
        day-first = leb-true 1 d.day p₄.1;
        day-last = leb-true d.day (month_length d.year d.month) p₅.1;
      },
      leb-true d.year 2099 p₁.1,
    )

-- ---- the two senses

-- from a date to its number, which is at most the last, and back
pub date-of-day : (d : Date) → in_calendar d ≡ true → date_of (day_of d) ≡ d
date-of-day d e = found (in-sound d e).0 (day_of d) refl

pub day-most : (d : Date) → in_calendar d ≡ true → day_of d ≤ last_day
day-most d e = let s = in-sound d e in sound-most s.0 s.1

-- the sum that is the number is at most the last
pub day-parts : (year month day : ℕ) → in_calendar (ymd year month day) ≡ true → years_days (year - 2000) + months_days year (month - 1) + (day - 1) ≤ last_day
unfolding day_of
day-parts year month day e = day-most (ymd year month day) e

-- from a number to its date, which is in the calendar up to the last, and back
pub day-of-date : (n : ℕ) → day_of (date_of n) ≡ n
day-of-date n = (counted n).1

pub date-in : (n : ℕ) → n ≤ last_day → in_calendar (date_of n) ≡ true
date-in n h = let s = (counted n).0 in sound-in s (sound-year s (omega (arith, day-of-date n)))

-- the last day is 31 December 2099
pub last-number : day_of (ymd 2099 12 31) ≡ last_day
unfolding day_of years_days year_length months_days
last-number = refl

pub last-date : date_of last_day ≡ ymd 2099 12 31
unfolding in_calendar
last-date = ap date_of (sym last-number) ∙ date-of-day (ymd 2099 12 31) refl

-- ---- what the calls promise

module _ (year month day : ℕ) where
  -- a date is accepted exactly if it is in the calendar
  day-taken : in_calendar (ymd year month day) ≡ true → day_answer year month day ≡ record { refusal = 0; number = day_of (ymd year month day) }
  unfolding day_answer
  day-taken e = rw e

  day-accepted : (day_answer year month day).refusal ≡ 0 → in_calendar (ymd year month day) ≡ true
  unfolding day_answer
  day-accepted e = by-test (λ t. t ≡ true) (in_calendar (ymd year month day)) (λ _. refl) (λ t. let z = rw t at e in absurd (omega arith))

module _ (day : ℕ) where
  -- a day is accepted exactly if it is at most the last
  pub date-taken : {d : Date} → day ≤ last_day → date_of day ≡ d → date_answer day ≡ record { refusal = 0; year = d.year; month = d.month; day = d.day }
  unfolding date_answer
  date-taken h e = rw (le-leb day last_day h, e)

  date-accepted : (date_answer day).refusal ≡ 0 → day ≤ last_day
  unfolding date_answer
  date-accepted e = by-test (λ _. day ≤ last_day) (leb day last_day) (leb-true day last_day) (λ t. let z = rw t at e in absurd (omega arith))

  -- a day that is refused is past the last
  pub date_refused : (r : Refusal) → number_of r ≡ day_refusal day → calendar_date (Err r) ≡ date_answer day
  unfolding date_answer
  date_refused r e = let late = day-late day (omega (arith, e, number-some r)) in rw (e, late.1, lt-leb day last_day late.0)

-- an accepted date, its day taken back, is the same date
pub day-and-back : (year month day : ℕ) → (day_answer year month day).refusal ≡ 0 → date_answer (day_answer year month day).number ≡ record { refusal = 0; year = year; month = month; day = day }
day-and-back year month day e =
    let d = ymd year month day in
    let known = day-accepted year month day e in
    ap (λ (a : Answer). date_answer a.number) (day-taken year month day known)
    ∙ date-taken (day_of d) (day-most d known) (date-of-day d known)

-- an accepted day, its date taken back, is the same day
pub date-and-back : (day : ℕ) → (date_answer day).refusal ≡ 0 → day_answer (date_answer day).year (date_answer day).month (date_answer day).day ≡ record { refusal = 0; number = day }
date-and-back day e =
    let h = date-accepted day e in
    let d = date_of day in
    ap (λ (a : CalendarDate). day_answer a.year a.month a.day) (date-taken day h refl)
    ∙ day-taken d.year d.month d.day (date-in day h) ∙ ap (λ (n : ℕ). record { refusal = 0; number = n }) (day-of-date day)
