-- The line rule (document 02, (i), in place of document 01's): "A line now ends at 10, at 13, or at the pair 13 10 taken as one ending. Line is 1 plus the endings wholly before the place; column
-- counts from the last of them." The endings come first, read off the text from its start; line and column are told by them.
use Rattle.std.specs.Prelude.{ℕ, suc, ◌+◌, ◌-◌, min, Bool, cond, not, ◌&&◌, ◌||◌, List, [], ◌∷◌, length, eqb, ltb, leb}
use Rattle.line_column.specs.declared.LineColumn.{LineColumn}

-- whether two bytes are the pair 13 10
unfoldable pub is_pair : ℕ → ℕ → Bool
is_pair a b = eqb a 13 && eqb b 10

-- whether a byte is an ending where it is not part of a pair: 10 or 13
unfoldable pub is_ending : ℕ → Bool
is_ending a = eqb a 10 || eqb a 13

-- the endings of a text whose first byte stands at place k, first to last, each by the place after its last byte; a pair is one ending
unfoldable pub endings : ℕ → List ℕ → List ℕ
unfolding is_pair is_ending
endings k [] = []
endings k (a ∷ []) = cond (is_ending a) (suc k ∷ []) []
endings k (a ∷ b ∷ rest) =
    cond (is_pair a b)
    (suc (suc k) ∷ endings (suc (suc k)) rest)
    (cond (is_ending a) (suc k ∷ endings (suc k) (b ∷ rest)) (endings (suc k) (b ∷ rest)))

-- those that are wholly before a place
unfoldable pub wholly_before : ℕ → List ℕ → List ℕ
wholly_before place [] = []
wholly_before place (e ∷ es) = cond (leb e place) (e ∷ wholly_before place es) (wholly_before place es)

-- the last of a list; `start` where it is empty
unfoldable pub last_of : ℕ → List ℕ → ℕ
last_of start [] = start
last_of start (e ∷ es) = last_of e es

-- how many endings are wholly before a place
unfoldable pub ends_before : List ℕ → ℕ → ℕ
unfolding endings wholly_before
ends_before text place = length (wholly_before place (endings 0 text))

-- where the line of a place starts: after the last of them, or at the text's start
unfoldable pub line_start : List ℕ → ℕ → ℕ
unfolding endings wholly_before last_of
line_start text place = last_of 0 (wholly_before place (endings 0 text))

-- the line and the column of a place; a place past the text's end has those of the end
unfoldable pub line_column : List ℕ → ℕ → LineColumn
unfolding ends_before line_start
line_column text place = record { line = ends_before text (min place (length text)) + 1; column = min place (length text) - line_start text (min place (length text)) + 1 }

-- what they are if some line and column are told of a place at or before it: the endings between the two are added to the line, and without any the bytes between to the column
unfoldable pub line_column_on : List ℕ → ℕ → ℕ → ℕ → ℕ → LineColumn
unfolding ends_before line_start
line_column_on text start line column place =
    record {
      line = line + (ends_before text place - ends_before text start);
      column = cond (ltb 0 (ends_before text place - ends_before text start)) (place - line_start text place + 1) (column + (place - start));
    }

-- the same of any other place: one that is past this one plays no part
unfoldable pub line_column_from : List ℕ → ℕ → ℕ → ℕ → ℕ → LineColumn
unfolding line_column line_column_on
line_column_from text known line column place =
    cond (ltb (min place (length text)) known) (line_column text place) (line_column_on text known line column (min place (length text)))

-- how the code counts them, by a byte and the one after it: whether an ending is over with the byte `here`, which `next` follows; past the text's end stands 0
unfoldable pub ends_line : ℕ → ℕ → Bool
unfolding is_pair is_ending
ends_line here next = is_ending here && not (is_pair here next)
