-- What a call gives, as `Result`s and as the plain numbers that C receives: a refusal's number (document 01, "What a refused call hands back"), a find, a number, and a number or the fault of a book.
use Rattle.std.specs.Prelude.{ℕ, Result, Ok, Err}
use Rattle.matching.specs.declared.refusal.Refusal.{Refusal}
use Rattle.matching.specs.declared.refusal.Refusal.TheVariants.{UnknownMethod, NoPhrase, LongPhrase, LongText, ShortScratch, ShortBuffer, CutField, WrongTag, BadField, LongBook, ShortEntries, NoOccurrence, LongCue, UnknownPage, NotForward, BadDate, BadStretch, BadList, NotAllowed}
use Rattle.matching.specs.declared.Finding.{Finding}
use Rattle.matching.specs.declared.Answer.{Answer}
use Rattle.matching.specs.declared.Tally.{Tally}
use Rattle.matching.specs.declared.Fault.{Fault}

-- a refusal's number
abbrev pub number_of : Refusal → ℕ
number_of UnknownMethod = 1
number_of NoPhrase = 2
number_of LongPhrase = 3
number_of LongText = 4
number_of ShortScratch = 5
number_of ShortBuffer = 6
number_of CutField = 7
number_of WrongTag = 8
number_of BadField = 9
number_of LongBook = 10
number_of ShortEntries = 11
number_of NoOccurrence = 12
number_of LongCue = 13
number_of UnknownPage = 14
number_of NotForward = 15
number_of BadDate = 16
number_of BadStretch = 17
number_of BadList = 18
number_of NotAllowed = 19

-- the number of a refusal, 0 where there is none
abbrev pub refused_by : {A : Type 0} → Result A Refusal → ℕ
refused_by (Ok x) = 0
refused_by (Err r) = number_of r

-- a find as C receives it: a refused one has a total and comparisons of 0
abbrev pub finding : Result Tally Refusal → Finding
finding (Ok t) = record { refusal = 0; total = t.total; comparisons = t.comparisons }
finding (Err r) = record { refusal = number_of r; total = 0; comparisons = 0 }

-- a number as C receives it: 0 where it is refused
abbrev pub answer : Result ℕ Refusal → Answer
answer (Ok n) = record { refusal = 0; number = n }
answer (Err r) = record { refusal = number_of r; number = 0 }

-- the same where a refusal has a number with it
abbrev pub fault_answer : Result ℕ Fault → Answer
fault_answer (Ok n) = record { refusal = 0; number = n }
fault_answer (Err f) = record { refusal = number_of f.refusal; number = f.number }
