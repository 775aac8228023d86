-- What a column entry reads as, and the bytes that it shows (rules 3.1 to 3.4).
-- Assumes nothing.
use Rattle.std.specs.Prelude.{ℕ, ◌+◌, Bool, true, cond, not, ◌&&◌, ◌||◌, List, [], length, take, drop, ltb, eqb, Option, Some, None}
use Rattle.record.specs.Value.{Length, body_length, value_of, start_of, length_of}
use Rattle.record.specs.declared.entry.Entry.{Entry}
use Rattle.record.specs.declared.record.Value.{Value}
use Rattle.record.specs.declared.record.Value.TheVariants.{Null}

-- Rule 3.1, states: the body is there
abbrev pub body_state : ℕ
body_state = 0

-- the body does not fit
abbrev pub unfit_state : ℕ
unfit_state = 1

-- the column is lost
abbrev pub lost_state : ℕ
lost_state = 2

-- the entry only pads a group; no state is higher
abbrev pub unused_state : ℕ
unused_state = 3

-- what an entry reads as; none is a refusal
abbrev pub EntryRead : Type 0
EntryRead = Option Value

-- whether a length is not the type's; types 10 and 11 have none
abbrev pub unlike : ℕ → Length → Bool
unlike len (Some n) = not (eqb len n)
unlike len None = true

-- Rule 3.2: there is no such state; or there should be a body, and the length is not the type's or the body leaves the slice
-- of so many bytes
unfoldable pub bad_within : Entry → ℕ → Bool
bad_within e all =
    ltb unused_state e.state
    || (eqb e.state body_state && (unlike e.len (body_length e.kind) || ltb all (e.start + e.len)))

abbrev pub bad_entry : Entry → List ℕ → Bool
bad_entry e s = bad_within e (length s)

-- Rule 3.3: a good entry reads as its body where that is there, and as NULL in the other states
unfoldable pub read_entry : Entry → List ℕ → EntryRead
read_entry e s =
    cond (bad_entry e s) None
    (cond (eqb e.state body_state) (Some (value_of e.kind s e.start e.len)) (Some Null))

-- the number of that refusal
abbrev pub bad_number : ℕ
bad_number = 2

-- the number of what was read; 0 stands for none
abbrev pub refusal_of : EntryRead → ℕ
refusal_of (Some v) = 0
refusal_of None = bad_number

unfoldable pub entry_refusal : Entry → List ℕ → ℕ
entry_refusal e s = cond (bad_entry e s) bad_number 0

-- Rule 3.4: text and blob show their bytes, and nothing else shows any
abbrev pub value_bytes : List ℕ → Value → List ℕ
value_bytes s v = take (length_of v) (drop (start_of v) s)

abbrev pub shown : List ℕ → EntryRead → List ℕ
shown s (Some v) = value_bytes s v
shown s None = []

unfoldable pub entry_bytes : Entry → List ℕ → List ℕ
entry_bytes e s = shown s (read_entry e s)
