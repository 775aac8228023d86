-- A contract fixes its answer: any two results that it allows for the same arguments are equal. `Post` is the function's own postcondition.
-- Assumes nothing.
use mathlib.Core.Path.{◌≡◌, sym, ◌∙◌}
use Rattle.record.proofs.entry.Entry.is_bad.Reads as is-bad
use Rattle.record.proofs.entry.Entry.is_bad_within.Reads as is-bad-within
use Rattle.record.proofs.entry.Entry.read.Reads as read
use Rattle.record.proofs.entry.Entry.view.Reads as view
use Rattle.record.proofs.record.Value.len.Reads as value_len
use Rattle.record.proofs.record.Value.start.Reads as value-start
use Rattle.record.proofs.record.body_length.Reads as body-length
use Rattle.record.proofs.record.decode_serial_type.Reads as decode-serial-type
use Rattle.record.proofs.varint.Cursor.new.Reads as cursor-new
use Rattle.record.proofs.varint.Cursor.header_length.Reads as header-length
use Rattle.record.proofs.varint.Cursor.often_short.Reads as often-short
use Rattle.record.proofs.varint.Cursor.serial_type.Reads as serial-type
use Rattle.record.proofs.varint.Cursor.varint.Reads as varint
use Rattle.record.proofs.varint.read_varint.Reads as read-varint

-- over lifetimes k, arguments a, and the arguments as the function leaves them, s and t: what is seen of both outcomes is the same
abbrev pub FixesSeen {h i j l m} : {K : Type h} {A : K → Type i} {R : K → Type j} {S : K → Type l} {B : Type m} → ((k : K) → A k → R k → S k → Type 0) → ((k : K) → R k → S k → B) → Type (h ⊔ i ⊔ j ⊔ l ⊔ m)
FixesSeen {K} {A} {R} {S} Post see = (k : K) (a : A k) (x y : R k) (s t : S k) → Post k a x s → Post k a y t → see k x s ≡ see k y t

-- the result itself
abbrev pub Fixes {h i j l} : {K : Type h} {A : K → Type i} {R : K → Type j} {S : K → Type l} → ((k : K) → A k → R k → S k → Type 0) → Type (h ⊔ i ⊔ j ⊔ l)
Fixes {K} {A} {R} {S} Post = (k : K) (a : A k) (x y : R k) (s t : S k) → Post k a x s → Post k a y t → x ≡ y

pub cursor_new_fixed : Fixes cursor-new.Post
cursor_new_fixed k a x y s t p q = p ∙ sym q

pub varint_fixed : Fixes varint.Post
varint_fixed k a x y s t p q = p ∙ sym q

pub often_short_fixed : Fixes often-short.Post
often_short_fixed k a x y s t p q = p ∙ sym q

pub header_length_fixed : Fixes header-length.Post
header_length_fixed k a x y s t p q = p ∙ sym q

pub serial_type_fixed : Fixes serial-type.Post
serial_type_fixed k a x y s t p q = p ∙ sym q

pub read_varint_fixed : Fixes read-varint.Post
read_varint_fixed k a x y s t p q = p ∙ sym q

pub body_length_fixed : Fixes body-length.Post
body_length_fixed k a x y s t p q = p ∙ sym q

pub decode_serial_type_fixed : Fixes decode-serial-type.Post
decode_serial_type_fixed k a x y s t p q = p ∙ sym q

pub value_start_fixed : Fixes value-start.Post
value_start_fixed k a x y s t p q = p ∙ sym q

pub value_len_fixed : Fixes value_len.Post
value_len_fixed k a x y s t p q = p ∙ sym q

pub read_fixed : Fixes read.Post
read_fixed k a x y s t p q = p.0 ∙ sym q.0

pub is_bad_fixed : Fixes is-bad.Post
is_bad_fixed k a x y s t p q = p ∙ sym q

pub is_bad_within_fixed : Fixes is-bad-within.Post
is_bad_within_fixed k a x y s t p q = p ∙ sym q

-- of a part of a slice: its bytes
pub view_fixed : FixesSeen view.Post (λ k r s. r.now)
view_fixed k a x y s t p q = p ∙ sym q
