-- Reading from left to right: a field is a value and the bytes behind it, or nothing.
use Rattle.std.specs.Prelude.{◌≡◌, ℕ, zero, suc, ◌+◌, ◌≤◌, Bool, not, ◌&&◌, ◌==◌, nat_lt, nat_le, if◌then◌else◌, List, [], ◌∷◌, length, map, take, drop, slice_index, Option, Some, None, Result, Ok, Err, ℤ, ◌-◌}
use Rattle.std.specs.Int.{Width, w16, w32, w64, byte_len, from_be_bytes, cast_signed}
use Rattle.fine_model.specs.declared.Mark.{Mark}
use Rattle.fine_model.specs.declared.Rec.{Rec}
use Rattle.fine_model.specs.declared.Rec.TheVariants as rec
use Rattle.fine_model.specs.declared.Row.{Row}
use Rattle.fine_model.specs.Map.{Pair, is_ascending}
use Rattle.fine_model.specs.RowBytes.{greatest, last_kind, most_in_key, most_in_value, node_numbers, greatest_depth, most_in_node, buckets}
use Rattle.node_record.specs.declared.fault.RowFault.{RowFault}
use Rattle.node_record.specs.declared.fault.RowFault.TheVariants as fault
use Rattle.node_record.specs.declared.front.Front.{Front}

infixl 10 ◌>>=◌
abbrev pub ◌>>=◌ : {A B : Type 0} → Option A → (A → Option B) → Option B
None >>= f = None
(Some x) >>= f = f x

-- What a function returned that reads from a place on, seen by view, is what reading the bytes from there gives, unless memory ran out.
abbrev pub Fails : {Y : Type 0} → ℕ → RowFault → Option (Y × List ℕ) → Type 0
Fails start fault.NoMemory read = Unit {0}
Fails start (fault.Bad at) read = (at ≡ start) × (read ≡ None)

abbrev pub Gives : {X Y : Type 0} → (X → Y) → List ℕ → ℕ → Result (X × ℕ) RowFault → Option (Y × List ℕ) → Type 0
Gives view bytes start (Ok x) read = (x.1 ≤ length bytes) × (read ≡ Some (view x.0, drop x.1 bytes))
Gives view bytes start (Err e) read = Fails start e read

-- The same of a function that takes no memory.
abbrev pub Finds : {X Y : Type 0} → (X → Y) → List ℕ → ℕ → Result (X × ℕ) RowFault → Option (Y × List ℕ) → Type 0
Finds view bytes start (Ok x) read = (x.1 ≤ length bytes) × (read ≡ Some (view x.0, drop x.1 bytes))
Finds view bytes start (Err e) read = (e ≡ fault.Bad start) × (read ≡ None)

-- what stands behind what is read
abbrev pub behind : {Y : Type 0} → Option (Y × List ℕ) → Option (List ℕ)
behind read = read >>= λ x. Some x.1

-- A function that takes no memory returned the place behind what reading the bytes gives, and not its value.
abbrev pub Passes : List ℕ → ℕ → Result ℕ RowFault → Option (List ℕ) → Type 0
Passes bytes start (Ok end) rest = (end ≤ length bytes) × (rest ≡ Some (drop end bytes))
Passes bytes start (Err e) rest = (e ≡ fault.Bad start) × (rest ≡ None)

-- a field that passes a test
abbrev pub only : {A : Type 0} → (A → Bool) → Option (A × List ℕ) → Option (A × List ℕ)
only test read = read >>= λ x. if test x.0 then Some x else None

abbrev pub within : ℕ → ℕ → ℕ → Bool
within low high n = nat_le low n && nat_le n high

abbrev pub text_at : ℕ → List ℕ → Option (List ℕ × List ℕ)
text_at n bytes = if nat_lt (length bytes) n then None else Some (take n bytes, drop n bytes)

unfoldable pub byte_at : List ℕ → Option (ℕ × List ℕ)
byte_at bytes = do
  text ← text_at 1 bytes
  Some (slice_index text.0 0, text.1)

unfoldable pub number_at : Width → List ℕ → Option (ℕ × List ℕ)
number_at w bytes = do
  text ← text_at (byte_len w) bytes
  Some (from_be_bytes w text.0, text.1)

-- a number with a sign, in two's complement
unfoldable pub signed_at : List ℕ → Option (ℤ × List ℕ)
signed_at bytes = do
  n ← number_at w64 bytes
  Some (cast_signed w64 n.0, n.1)

unfoldable pub key_at : List ℕ → Option (List ℕ × List ℕ)
key_at bytes = do
  n ← only (within 1 most_in_key) (byte_at bytes)
  text_at n.0 n.1

unfoldable pub value_at : List ℕ → Option (List ℕ × List ℕ)
value_at bytes = do
  n ← only (within 1 most_in_value) (number_at w16 bytes)
  text_at n.0 n.1

unfoldable pub pair_at : List ℕ → Option (Pair × List ℕ)
pair_at bytes = do
  key ← key_at bytes
  value ← value_at key.1
  Some ((key.0, value.0), value.1)

unfoldable pub child_at : List ℕ → Option (ℕ × List ℕ)
child_at bytes = only (within 1 (node_numbers - 1)) (number_at w32 bytes)

-- so many fields, one after the other
unfoldable pub items_at : {A : Type 0} → (List ℕ → Option (A × List ℕ)) → ℕ → List ℕ → Option (List A × List ℕ)
items_at one zero bytes = Some ([], bytes)
items_at one (suc n) bytes = do
  first ← one bytes
  others ← items_at one n first.1
  Some (first.0 ∷ others.0, others.1)

-- so many fields, the keys of which ascend from a key
abbrev pub ascending_at : {A : Type 0} → (List A → List (List ℕ)) → (List ℕ → Option (A × List ℕ)) → List ℕ → ℕ → List ℕ → Option (List A × List ℕ)
ascending_at keys one before n bytes = only (λ xs. is_ascending (before ∷ keys xs)) (items_at one n bytes)

-- ---- bodies

unfoldable pub head_at : List ℕ → Option (Rec × List ℕ)
head_at bytes = do
  root ← child_at bytes
  next ← only (within 2 node_numbers) (number_at w32 root.1)
  depth ← only (within 1 greatest_depth) (byte_at next.1)
  Some (rec.HeadImage root.0 next.0 depth.0, depth.1)

unfoldable pub leaf_at : List ℕ → Option (Rec × List ℕ)
leaf_at bytes = do
  n ← only (within 0 most_in_node) (byte_at bytes)
  pairs ← only (λ pairs. is_ascending (map (λ p. p.0) pairs)) (items_at pair_at n.0 n.1)
  Some (rec.LeafImage pairs.0, pairs.1)

unfoldable pub inner_at : List ℕ → Option (Rec × List ℕ)
inner_at bytes = do
  n ← only (within 0 most_in_node) (byte_at bytes)
  kids ← items_at child_at (n.0 + 1) n.1
  seps ← only is_ascending (items_at key_at n.0 kids.1)
  Some (rec.InnerImage seps.0 kids.0, seps.1)

unfoldable pub put_at : List ℕ → Option (Rec × List ℕ)
put_at bytes = do
  pair ← pair_at bytes
  Some (rec.Put pair.0.0 pair.0.1, pair.1)

unfoldable pub keyed_at : (List ℕ → Rec) → List ℕ → Option (Rec × List ℕ)
keyed_at change bytes = do
  key ← key_at bytes
  Some (change key.0, key.1)

-- a key, and a field behind it
unfoldable pub tailed_at : {A : Type 0} → (List ℕ → Option (A × List ℕ)) → (List ℕ → A → Rec) → List ℕ → Option (Rec × List ℕ)
tailed_at one change bytes = do
  key ← key_at bytes
  tail ← one key.1
  Some (change key.0 tail.0, tail.1)

-- the body of a kind
unfoldable pub body_at : ℕ → List ℕ → Option (Rec × List ℕ)
body_at kind bytes =
    if kind == 1 then head_at bytes
    else (if kind == 2 then leaf_at bytes
    else (if kind == 3 then inner_at bytes
    else (if kind == 4 then put_at bytes
    else (if kind == 5 then keyed_at (λ key. rec.Del key) bytes
    else (if kind == 6 then keyed_at (λ key. rec.CutLeaf key) bytes
    else (if kind == 7 then keyed_at (λ key. rec.CutInner key) bytes
    else (if kind == 8 then tailed_at child_at (λ key child. rec.Link key child) bytes
    else (if kind == 9 then tailed_at signed_at (λ key by. rec.Plus key by) bytes else None))))))))

-- ---- rows

-- only node 0 has head images, and it has no other rows
abbrev pub fits_kind : ℕ → ℕ → Bool
fits_kind kind number = if kind == 1 then number == 0 else not (number == 0)

-- the bounds of a format
abbrev pub is_front : Mark → Front → Bool
is_front mark front =
    nat_le front.kind (last_kind mark) && (within 0 (buckets - 1) front.node.bucket && ((nat_le front.node.number (node_numbers - 1) && fits_kind front.kind front.node.number) && within 1 greatest front.version))

unfoldable pub front_at : Mark → List ℕ → Option (Front × List ℕ)
front_at mark bytes = do
  kind ← only (λ k. nat_le k (last_kind mark)) (byte_at bytes)
  bucket ← only (within 0 (buckets - 1)) (number_at w16 kind.1)
  number ← only (λ n. nat_le n (node_numbers - 1) && fits_kind kind.0 n) (number_at w32 bucket.1)
  version ← only (within 1 greatest) (number_at w64 number.1)
  len ← number_at w32 version.1
  Some (record { kind = kind.0; node = record { bucket = bucket.0; number = number.0 }; version = version.0; len = len.0 }, len.1)

-- a front, and the body of its kind and length
unfoldable pub row_at : Mark → List ℕ → Option (Row × List ℕ)
row_at mark bytes = do
  front ← front_at mark bytes
  change ← body_at front.0.kind front.1
  if length front.1 == front.0.len + length change.1 then Some (record { node = front.0.node; version = front.0.version; rec = change.0 }, change.1) else None
