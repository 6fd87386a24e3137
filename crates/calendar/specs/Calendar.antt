-- The calendar (document 02, (viii)): the days of 2000 to 2099 by the Gregorian calendar, numbered from 1 January 2000, which is day 0.
use Rattle.std.specs.Prelude.{ℕ, zero, suc, ◌+◌, ◌-◌, ◌%◌, Bool, cond, not, ◌&&◌, ◌||◌, List, [], ◌∷◌, eqb, ltb, leb, Result, Ok, Err}
use Rattle.matching.specs.declared.Answer.{Answer}
use Rattle.matching.specs.declared.refusal.Refusal.{Refusal}
use Rattle.matching.specs.Refusals.{Test, first_met}
use Rattle.matching.specs.Results.{number_of}
use Rattle.calendar.specs.declared.CalendarDate.{CalendarDate}
use Rattle.calendar.specs.declared.dates.Date.{Date}

-- ---- years, months and dates

-- whether a year is a leap year: 4 divides it, and 100 does not or 400 does
unfoldable pub is_leap : ℕ → Bool
is_leap year = eqb (year % 4) 0 && (not (eqb (year % 100) 0) || eqb (year % 400) 0)

-- the days of a year
unfoldable pub year_length : ℕ → ℕ
unfolding is_leap
year_length year = cond (is_leap year) 366 365

-- the days of a month in a year: February has 28 or 29, April, June, September and November have 30, each other has 31
unfoldable pub month_length : ℕ → ℕ → ℕ
unfolding is_leap
month_length year month = cond (eqb month 2) (cond (is_leap year) 29 28) (cond (eqb month 4 || eqb month 6 || eqb month 9 || eqb month 11) 30 31)

-- the date of a year, a month from 1 for January, and a day of the month from 1
abbrev pub ymd : ℕ → ℕ → ℕ → Date
ymd year month day = record { year = year; month = month; day = day }

-- whether it is a date of the years 2000 to 2099
unfoldable pub in_calendar : Date → Bool
unfolding month_length
in_calendar d = leb 2000 d.year && leb d.year 2099 && leb 1 d.month && leb d.month 12 && leb 1 d.day && leb d.day (month_length d.year d.month)

-- ---- from a number to its date: counting on, day by day

-- the date after a date: the next day of the month; after the month's last day the first of the next month; after the year's last month 1 January of the next year
unfoldable pub next : Date → Date
unfolding month_length
next d =
    cond (ltb d.day (month_length d.year d.month))
    (ymd d.year d.month (suc d.day))
    (cond (ltb d.month 12) (ymd d.year (suc d.month) 1) (ymd (suc d.year) 1 1))

-- day 0
abbrev pub first_date : Date
first_date = ymd 2000 1 1

-- the date of a day
unfoldable pub date_of : ℕ → Date
unfolding next
date_of zero = first_date
date_of (suc n) = next (date_of n)

-- ---- from a date to its number: the days before it

-- the days of the first k years from 2000 on
unfoldable pub years_days : ℕ → ℕ
unfolding year_length
years_days zero = 0
years_days (suc k) = years_days k + year_length (2000 + k)

-- the days of the first k months of a year
unfoldable pub months_days : ℕ → ℕ → ℕ
unfolding month_length
months_days year zero = 0
months_days year (suc k) = months_days year k + month_length year (suc k)

-- the days before a date: of the years from 2000 before its year, of the months before its month, and those before it in its month
unfoldable pub day_of : Date → ℕ
unfolding years_days months_days
day_of d = years_days (d.year - 2000) + months_days d.year (d.month - 1) + (d.day - 1)

-- ---- the refusals

-- the number of 31 December 2099
abbrev pub last_day : ℕ
last_day = 36524

-- the tests of a day: it is in the calendar (16)
abbrev pub day_tests : ℕ → List Test
day_tests day = (ltb last_day day, 16) ∷ []

-- the refusal of a day, 0 for none
unfoldable pub day_refusal : ℕ → ℕ
unfolding first_met
day_refusal day = first_met (day_tests day)

-- the tests of the days from a first to a last: both are in the calendar, and the last is not before the first (16)
abbrev pub days_tests : ℕ → ℕ → List Test
days_tests first last = (ltb last_day first, 16) ∷ (ltb last_day last, 16) ∷ (ltb last first, 16) ∷ []

-- their refusal, 0 for none
unfoldable pub days_refusal : ℕ → ℕ → ℕ
unfolding first_met
days_refusal first last = first_met (days_tests first last)

-- ---- what the two conversions give: 16 and zeros for what is not in the calendar

-- of a year, a month and a day of the month: 0 and the day
unfoldable pub day_answer : ℕ → ℕ → ℕ → Answer
unfolding in_calendar day_of
day_answer year month day = cond (in_calendar (ymd year month day)) (record { refusal = 0; number = day_of (ymd year month day) }) (record { refusal = 16; number = 0 })

-- of a day: 0 and its date
unfoldable pub date_answer : ℕ → CalendarDate
unfolding date_of
date_answer day =
    cond (leb day last_day)
    (record { refusal = 0; year = (date_of day).year; month = (date_of day).month; day = (date_of day).day })
    (record { refusal = 16; year = 0; month = 0; day = 0 })

-- a date as C receives it: zeros where it is refused
abbrev pub calendar_date : Result Date Refusal → CalendarDate
calendar_date (Ok d) = record { refusal = 0; year = d.year; month = d.month; day = d.day }
calendar_date (Err r) = record { refusal = number_of r; year = 0; month = 0; day = 0 }
