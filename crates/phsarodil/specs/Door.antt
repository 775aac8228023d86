-- The words that a call writes into `out` for its answer.
-- Assumes nothing.
use Rattle.std.specs.Prelude.{ℕ, cond, List, [], ◌∷◌, eqb, length, Option, None, Some, Result, Ok, Err}
use Rattle.record.specs.Value.{Length, Decoded, start_of, length_of}
use Rattle.record.specs.declared.entry.Entry.{Entry}
use Rattle.record.specs.Entry.{EntryRead}
use Rattle.page.specs.declared.btree.Page.{Page}
use Rattle.sheet.specs.declared.refusal.Refusal.{Refusal}
use Rattle.record.specs.declared.varint.Number.{Number}
use Rattle.tagged.specs.Tagged.{tag_of, bits_of}

-- phs_read_varint: found, value, bytes taken, padded
abbrev pub varint_words : Option Number → List ℕ
varint_words (Some n) = 1 ∷ n.value ∷ n.len ∷ cond n.padded 1 0 ∷ []
varint_words None = 0 ∷ 0 ∷ 0 ∷ 0 ∷ []

-- phs_body_length: known, length
abbrev pub length_words : Length → List ℕ
length_words (Some n) = 1 ∷ n ∷ []
length_words None = 0 ∷ 0 ∷ []

-- ---- a value
-- phs_decode_serial_type: tag, bits, start, bytes taken
abbrev pub decoded_words : List ℕ → ℕ → Decoded → List ℕ
decoded_words s at (Some (v, n)) = tag_of v ∷ bits_of s at v ∷ start_of v ∷ n ∷ []
decoded_words s at None = 0 ∷ 0 ∷ 0 ∷ 0 ∷ []

-- ---- an entry
abbrev pub entry_of : ℕ → ℕ → ℕ → ℕ → Entry
entry_of state kind start len = record { state = state; kind = kind; start = start; len = len }

-- phs_read_entry: tag, bits, start, length
abbrev pub entry_words : List ℕ → ℕ → EntryRead → List ℕ
entry_words s at (Some v) = tag_of v ∷ bits_of s at v ∷ start_of v ∷ length_of v ∷ []
entry_words s at None = 0 ∷ 0 ∷ 0 ∷ 0 ∷ []

-- phs_view_entry: start and length of the bytes that an entry shows from its start on
abbrev pub view_words : ℕ → List ℕ → List ℕ
view_words start shown = cond (eqb (length shown) 0) (0 ∷ 0 ∷ []) (start ∷ length shown ∷ [])

-- ---- a page
-- phs_get_page_data: where the page starts, its length, and where its b-tree header stands in it
abbrev pub paged_words : Result Page Refusal → List ℕ
paged_words (Ok page) = page.start ∷ page.len ∷ page.head ∷ []
paged_words (Err r) = 0 ∷ 0 ∷ 0 ∷ []
