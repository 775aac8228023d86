-- The numbers that the paper fixes, and the two tests of hints that go by them.
-- Assumes nothing.
use Rattle.std.specs.Prelude.{ℕ, Bool, true, ◌&&◌, List, [], ◌∷◌, leb}

-- the most columns that a table may have
abbrev pub most_columns : ℕ
most_columns = 510

-- the words of a row
abbrev pub words_per_row : ℕ
words_per_row = 9

-- the words of a column entry
abbrev pub words_per_entry : ℕ
words_per_entry = 4

-- the most bytes that a region, a page slice or a database may have
abbrev pub largest_region : ℕ
largest_region = 16777216

-- the largest base offset: 2 ^ 48
abbrev pub largest_base : ℕ
largest_base = 281474976710656

-- the longest header
abbrev pub most_header : ℕ
most_header = 512

-- the most bytes that a statement may have
abbrev pub largest_statement : ℕ
largest_statement = 65536

-- the most tables that may be lent
abbrev pub most_tables : ℕ
most_tables = 1024

-- the most rows to learn from
abbrev pub most_rows : ℕ
most_rows = 1024

-- Rule 1.3: the hint codes
abbrev pub integer_hint : ℕ
integer_hint = 0

abbrev pub real_hint : ℕ
real_hint = 1

abbrev pub text_hint : ℕ
text_hint = 2

abbrev pub blob_hint : ℕ
blob_hint = 3

abbrev pub null_hint : ℕ
null_hint = 4

abbrev pub any_hint : ℕ
any_hint = 5

-- no code is higher
abbrev pub highest_hint : ℕ
highest_hint = any_hint

-- Rule 1.1, number 1: a count of columns or hints is one at least, and no more than there may be
unfoldable pub count_fits : ℕ → Bool
count_fits n = leb 1 n && leb n most_columns

-- Rule 1.1, number 2: every hint code is one of the six
unfoldable pub hints_known : List ℕ → Bool
hints_known [] = true
hints_known (h ∷ hs) = leb h highest_hint && hints_known hs
