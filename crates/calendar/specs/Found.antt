-- What this crate's own loops find: the year and the month that a day lies in, and how many days of them are over. No public promise speaks of these.
use Rattle.std.specs.Prelude.{◌≡◌, ℕ, ◌+◌, ◌-◌, ◌≤◌, ◌<◌}
use Rattle.calendar.specs.declared.Within.{Within}
use Rattle.calendar.specs.Calendar.{year_length, month_length, years_days, months_days}

-- the year of a day
pub record YearAt (day : ℕ) (r : Within) : Type 0 where
  pub since : 2000 ≤ r.number
  pub before : years_days (r.number - 2000) + r.days ≡ day
  pub inside : r.days < year_length r.number

-- the month of a day of a year
pub record MonthAt (year day : ℕ) (r : Within) : Type 0 where
  pub first : 1 ≤ r.number
  pub last : r.number ≤ 12
  pub before : months_days year (r.number - 1) + r.days ≡ day
  pub inside : r.days < month_length year r.number
