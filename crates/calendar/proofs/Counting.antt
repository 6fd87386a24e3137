-- Days counted: how long months and years are, the sums of them step by step, and what the day after a date changes (`next-counts`). Assumes nothing.
use mathlib.Core.Path.{◌≡◌, refl, sym, ap, ◌∙◌}
use Prim.Native.Nat.{ℕ, zero, suc, ◌+◌, ◌-◌, ◌≤◌, ◌<◌}
use native.Mathlib.Omega.{arith}
use mathlib.Core.Bool.{Bool, true, false, cond, ◌||◌}
use lib.Dec.{eqb, ltb, leb}
use borrow.Author.Tests.{leb-true, leb-false, ltb-true, ltb-false}
use Rattle.matching.proofs.CaseAnalysis.{by-test}
use Rattle.calendar.specs.declared.dates.Date.{Date}
use Rattle.calendar.specs.Calendar.{is_leap, year_length, month_length, ymd, next, years_days, months_days, day_of, last_day}

-- ---- months and years

-- what holds of both numbers holds of the one that a test picks
either_way : (Q : ℕ → Type 0) (t : Bool) {x y : ℕ} → Q x → Q y → Q (cond t x y)
either_way Q true h k = h
either_way Q false h k = k

-- a month has 28 to 31 days
pub month-range : (year month : ℕ) → (28 ≤ month_length year month) × (month_length year month ≤ 31)
unfolding month_length
month-range year month =
    let few : (n : ℕ) → Type 0 = λ n. (28 ≤ n) × (n ≤ 31) in
    either_way few (eqb month 2)
    (either_way few (is_leap year) (omega arith, omega arith) (omega arith, omega arith))
    (either_way few (eqb month 4 || eqb month 6 || eqb month 9 || eqb month 11) (omega arith, omega arith) (omega arith, omega arith))

-- a year has 365 or 366
pub year-range : (year : ℕ) → (365 ≤ year_length year) × (year_length year ≤ 366)
unfolding year_length
year-range year = either_way (λ n. (365 ≤ n) × (n ≤ 366)) (is_leap year) (omega arith, omega arith) (omega arith, omega arith)

-- they are those of its twelve months
pub year-months : (year : ℕ) → months_days year 12 ≡ year_length year
unfolding year_length month_length months_days
year-months year = by-test (λ t. 0 + 31 + cond t 29 28 + 31 + 30 + 31 + 30 + 31 + 31 + 30 + 31 + 30 + 31 ≡ cond t 366 365) (is_leap year) (λ _. refl) (λ _. refl)

-- ---- the sums of them

-- one month more, and one year more
pub months-more : (year month k : ℕ) → 1 ≤ month → k ≡ month → months_days year k ≡ months_days year (month - 1) + month_length year month
unfolding months_days
months-more year zero k h e = absurd (omega arith)
months-more year (suc m) k h e = let z : suc m - 1 ≡ m = omega arith in rw (e, z)

pub years-more : (year k : ℕ) → 2000 ≤ year → k ≡ suc (year - 2000) → years_days k ≡ years_days (year - 2000) + year_length year
unfolding years_days
years-more year k h e = let z : 2000 + (year - 2000) ≡ year = omega arith in ap years_days e ∙ ap (λ (y : ℕ). years_days (year - 2000) + year_length y) z

-- of more months or years the sum is no smaller
sums-up : (f : ℕ → ℕ) → ((k : ℕ) → f k ≤ f (suc k)) → (i j : ℕ) → i ≤ j → f i ≤ f j
sums-up f up i zero h = let z : i ≡ 0 = omega arith in omega (arith, ap f z)
sums-up f up i (suc j) h =
    by-test (λ _. f i ≤ f (suc j)) (leb i j)
    (λ t. omega (arith, sums-up f up i j (leb-true i j t), up j))
    (λ t. let z : i ≡ suc j = omega (arith, leb-false i j t) in omega (arith, ap f z))

pub months-up : (year i j : ℕ) → i ≤ j → months_days year i ≤ months_days year j
unfolding months_days
months-up year i j h = sums-up (months_days year) (λ k. omega arith) i j h

pub years-up : (i j : ℕ) → i ≤ j → years_days i ≤ years_days j
unfolding years_days
years-up i j h = sums-up years_days (λ k. omega arith) i j h

-- so a smaller sum is that of fewer
fewer : (f : ℕ → ℕ) → ((i j : ℕ) → i ≤ j → f i ≤ f j) → (i j : ℕ) → f i < f j → i < j
fewer f up i j h = by-test (λ _. i < j) (ltb i j) (ltb-true i j) (λ t. absurd (omega (arith, up j i (ltb-false i j t))))

pub months-fewer : (year i j : ℕ) → months_days year i < months_days year j → i < j
months-fewer year i j h = fewer (months_days year) (months-up year) i j h

pub years-fewer : (i j : ℕ) → years_days i < years_days j → i < j
years-fewer i j h = fewer years_days years-up i j h

-- the years 2000 to 2099 have 36,525 days
pub all-days : years_days 100 ≡ suc last_day
unfolding years_days year_length
all-days = refl

-- ---- the day after a date

-- a date of 2000 or later
pub record Sound (d : Date) : Type 0 where
  pub since : 2000 ≤ d.year
  pub month-first : 1 ≤ d.month
  pub month-last : d.month ≤ 12
  pub day-first : 1 ≤ d.day
  pub day-last : d.day ≤ month_length d.year d.month

-- the next date by its cases
by_next : (Q : Date → Type 0) (d : Date) → (d.day < month_length d.year d.month → Q (ymd d.year d.month (suc d.day)))
    → (month_length d.year d.month ≤ d.day → d.month < 12 → Q (ymd d.year (suc d.month) 1))
    → (month_length d.year d.month ≤ d.day → 12 ≤ d.month → Q (ymd (suc d.year) 1 1))
    → Q (next d)
unfolding next
by_next Q d inside month year =
    by-test (λ t. Q (cond t (ymd d.year d.month (suc d.day)) (cond (ltb d.month 12) (ymd d.year (suc d.month) 1) (ymd (suc d.year) 1 1)))) (ltb d.day (month_length d.year d.month))
    (λ t. inside (ltb-true d.day (month_length d.year d.month) t))
    (λ t.
    let over = ltb-false d.day (month_length d.year d.month) t in
    by-test (λ s. Q (cond s (ymd d.year (suc d.month) 1) (ymd (suc d.year) 1 1))) (ltb d.month 12)
    (λ s. month over (ltb-true d.month 12 s))
    (λ s. year over (ltb-false d.month 12 s)))

-- it is a date, and its number is the next
pub next-counts : {d : Date} → Sound d → Sound (next d) × (day_of (next d) ≡ suc (day_of d))
unfolding day_of months_days
next-counts {d} s =
    let year = d.year in
    let month = d.month in
    by_next (λ e. Sound e × (day_of e ≡ suc (day_of d))) d
    (λ h. (record { since = s.since; month-first = s.month-first; month-last = s.month-last; day-first = omega arith; day-last = h }, omega (arith, s.day-first)))
    (λ over h. (
      record { since = s.since; month-first = omega arith; month-last = h; day-first = omega arith; day-last = omega (arith, month-range year (suc month)) },
      omega (arith, s.day-first, s.day-last, months-more year month (suc month - 1) s.month-first (omega arith)),
    ))
    (λ over h.
    let december : month ≡ 12 = omega (arith, s.month-last) in (
      record { since = omega (arith, s.since); month-first = omega arith; month-last = omega arith; day-first = omega arith; day-last = omega (arith, month-range (suc year) 1) },
      omega (
        arith,
        s.day-first,
        s.day-last,
        months-more year month 12 s.month-first (sym december),
        year-months year,
        years-more year (suc year - 2000) s.since (omega (arith, s.since)),
      ),
    ))
