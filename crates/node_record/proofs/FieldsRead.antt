-- A field that is read, and where it ends.
use Rattle.std.proofs.Common.{◌≡◌, ℕ, ◌+◌, ◌≤◌, Bool, true, false, cond, ltb, leb, ◌&&◌, List, length, take, drop, Option, Some, None, ℤ, refl, sym, ap, ◌∙◌, arith, length-drop}
use Rattle.std.specs.Prelude.{option_map, slice_index}
use Rattle.std.specs.Int.{Width, w16, w32, w64, byte_len, from_be_bytes, cast_signed}
use Rattle.std.proofs.lemmas.Bool.{ltb-false, le-ltb}
use Rattle.std.proofs.lemmas.List.{drop-drop, get_or-drop, get_or-take}
use Rattle.fine_model.specs.declared.Mark.{Mark}
use Rattle.fine_model.specs.RowBytes.{greatest, last_kind}
use Rattle.node_record.specs.declared.front.Front.{Front}
use Rattle.node_record.specs.Reading.{◌>>=◌, only, within, text_at, byte_at, number_at, signed_at, fits_kind, front_at, is_front}

pub record IsField (n : ℕ) (bytes : List ℕ) (at : ℕ) (text : List ℕ) : Type 0 where
  pub ends : at + n ≤ length bytes
  pub read : text_at n (drop at bytes) ≡ Some (text, drop (at + n) bytes)

pub field_is : (n : ℕ) (bytes : List ℕ) (at : ℕ) (text : List ℕ) → at ≤ length bytes → Some text ≡ option_map (λ (t : List ℕ × List ℕ). t.0) (text_at n (drop at bytes)) → IsField n bytes at text
field_is n bytes at text start is = by (ltb (length (drop at bytes)) n) refl is
  where
    by : (b : Bool) → ltb (length (drop at bytes)) n ≡ b → Some text ≡ option_map (λ (t : List ℕ × List ℕ). t.0) (cond b None (Some (take n (drop at bytes), drop n (drop at bytes)))) → IsField n bytes at text
    by true e is = absurd cc
    by false e is =
        let same : text ≡ take n (drop at bytes) = cc in
        record {
          ends = omega (arith, ltb-false (length (drop at bytes)) n e, length-drop at bytes);
          read = ap (λ b. cond b None (Some (take n (drop at bytes), drop n (drop at bytes)))) e ∙ ap Some (λ j. (sym same j, drop-drop n at bytes j));
        }

pub number_is : (w : Width) (bytes : List ℕ) (at : ℕ) (text : List ℕ) (n : ℕ) → n ≡ from_be_bytes w text → IsField (byte_len w) bytes at text → (at + byte_len w ≤ length bytes) × (number_at w (drop at bytes) ≡ Some (n, drop (at + byte_len w) bytes))
unfolding number_at
number_is w bytes at text n is field = (field.ends, ap (λ read. read >>= λ t. Some (from_be_bytes w t.0, t.1)) field.read ∙ ap (λ m. Some (m, drop (at + byte_len w) bytes)) (sym is))

pub byte_is : (bytes : List ℕ) (at : ℕ) (text : List ℕ) (n : ℕ) → n ≡ slice_index text 0 → IsField 1 bytes at text → (at + 1 ≤ length bytes) × (byte_at (drop at bytes) ≡ Some (n, drop (at + 1) bytes))
unfolding byte_at
byte_is bytes at text n is field = (field.ends, ap (λ read. read >>= λ t. Some (slice_index t.0 0, t.1)) field.read ∙ ap (λ m. Some (m, drop (at + 1) bytes)) (sym is))

pub signed_is : (bytes : List ℕ) (at : ℕ) (text : List ℕ) (n : ℤ) → n ≡ cast_signed w64 (from_be_bytes w64 text) → IsField 8 bytes at text → (at + 8 ≤ length bytes) × (signed_at (drop at bytes) ≡ Some (n, drop (at + 8) bytes))
unfolding signed_at number_at
signed_is bytes at text n is field =
    let unsigned : List ℕ × List ℕ → Option (ℕ × List ℕ) = λ t. Some (from_be_bytes w64 t.0, t.1) in
    let signed : ℕ × List ℕ → Option (ℤ × List ℕ) = λ m. Some (cast_signed w64 m.0, m.1) in
    (field.ends, ap (λ (read : Option (List ℕ × List ℕ)). (read >>= unsigned) >>= signed) field.read ∙ ap (λ (m : ℤ). Some (m, drop (at + 8) bytes)) (sym is))

-- ---- what stands before a body

pub part_is : (n : ℕ) (bytes : List ℕ) (at : ℕ) → at + n ≤ length bytes → IsField n bytes at (take n (drop at bytes))
part_is n bytes at ends = record {
  ends = ends;
  read = ap (λ b. cond b None (Some (take n (drop at bytes), drop n (drop at bytes)))) (le-ltb (length (drop at bytes)) n (omega (arith, length-drop at bytes, ends))) ∙ ap (λ (rest : List ℕ). Some (take n (drop at bytes), rest)) (drop-drop n at bytes);
}

-- a field that is tested, and then what is read behind it
tested_then : {A : Type 0} (test : ℕ → Bool) (read : Option (ℕ × List ℕ)) (n : ℕ) (rest : List ℕ) (others : ℕ × List ℕ → Option A) (hold : Bool) (x : A) → read ≡ Some (n, rest) → others (n, rest) ≡ cond hold (Some x) None
    → (only test read >>= others) ≡ cond (test n && hold) (Some x) None
tested_then {A} test read n rest others hold x is then' = ap (λ (r : Option (ℕ × List ℕ)). only test r >>= others) is ∙ by (test n)
  where
    by : (b : Bool) → (cond b (Some (n, rest)) None >>= others) ≡ cond (b && hold) (Some x) None
    by true = then'
    by false = refl

tested_last : {A : Type 0} (test : ℕ → Bool) (read : Option (ℕ × List ℕ)) (n : ℕ) (rest : List ℕ) (others : ℕ × List ℕ → Option A) (x : A) → read ≡ Some (n, rest) → others (n, rest) ≡ Some x
    → (only test read >>= others) ≡ cond (test n) (Some x) None
tested_last {A} test read n rest others x is then' = ap (λ (r : Option (ℕ × List ℕ)). only test r >>= others) is ∙ by (test n)
  where
    by : (b : Bool) → (cond b (Some (n, rest)) None >>= others) ≡ cond b (Some x) None
    by true = then'
    by false = refl

-- the same place in other words
abbrev read_to : List ℕ → ℕ → ℕ → Option (ℕ × List ℕ)
read_to bytes n at = Some (n, drop at bytes)

moved : (bytes : List ℕ) (n k m : ℕ) → k ≡ m → read_to bytes n k ≡ read_to bytes n m
moved bytes n k m is = ap (read_to bytes n) is

abbrev pub front_of : ℕ → ℕ → ℕ → ℕ → ℕ → Front
front_of kind bucket number version len = record { kind = kind; node = record { bucket = bucket; number = number }; version = version; len = len }

module _ (mark : Mark) (front : Front) where
  abbrev behind_version : ℕ → ℕ → ℕ → ℕ × List ℕ → Option (Front × List ℕ)
  behind_version kind bucket number version = number_at w32 version.1 >>= λ len. Some (front_of kind bucket number version.0 len.0, len.1)

  abbrev behind_number : ℕ → ℕ → ℕ × List ℕ → Option (Front × List ℕ)
  behind_number kind bucket number = only (within 1 greatest) (number_at w64 number.1) >>= behind_version kind bucket number.0

  abbrev behind_bucket : ℕ → ℕ × List ℕ → Option (Front × List ℕ)
  behind_bucket kind bucket = only (λ n. leb n 1048575 && fits_kind kind n) (number_at w32 bucket.1) >>= behind_number kind bucket.0

  abbrev behind_kind : ℕ × List ℕ → Option (Front × List ℕ)
  behind_kind kind = only (within 0 255) (number_at w16 kind.1) >>= behind_bucket kind.0

  abbrev fits_number : Bool
  fits_number = leb front.node.number 1048575 && fits_kind front.kind front.node.number

  -- the fields of a front, each behind the one before it, are the front where they are within bounds
  pub front_is : (b0 b1 b2 b3 b4 b5 : List ℕ) → byte_at b0 ≡ Some (front.kind, b1) → number_at w16 b1 ≡ Some (front.node.bucket, b2) → number_at w32 b2 ≡ Some (front.node.number, b3)
      → number_at w64 b3 ≡ Some (front.version, b4) → number_at w32 b4 ≡ Some (front.len, b5) → front_at mark b0 ≡ cond (is_front mark front) (Some (front, b5)) None
  unfolding front_at
  front_is b0 b1 b2 b3 b4 b5 kind bucket number version len =
      let at_version : behind_version front.kind front.node.bucket front.node.number (front.version, b4) ≡ Some (front, b5) = ap (λ (r : Option (ℕ × List ℕ)). r >>= λ l. Some (front_of front.kind front.node.bucket front.node.number front.version l.0, l.1)) len in
      let at_number = tested_last (within 1 greatest) (number_at w64 b3) front.version b4 (behind_version front.kind front.node.bucket front.node.number) (front, b5) version at_version in
      let at_bucket = tested_then (λ n. leb n 1048575 && fits_kind front.kind n) (number_at w32 b2) front.node.number b3 (behind_number front.kind front.node.bucket) (within 1 greatest front.version) (front, b5) number at_number in
      let at_kind = tested_then (within 0 255) (number_at w16 b1) front.node.bucket b2 (behind_bucket front.kind) (fits_number && within 1 greatest front.version) (front, b5) bucket at_bucket in
      tested_then (λ k. leb k (last_kind mark)) (byte_at b0) front.kind b1 behind_kind (within 0 255 front.node.bucket && (fits_number && within 1 greatest front.version)) (front, b5) kind at_kind

  -- the fields at their places in bytes
  pub front_read : (bytes : List ℕ) (at : ℕ) → at + 19 ≤ length bytes → front.kind ≡ slice_index bytes at → front.node.bucket ≡ from_be_bytes w16 (take 2 (drop (at + 1) bytes))
      → front.node.number ≡ from_be_bytes w32 (take 4 (drop (at + 3) bytes)) → front.version ≡ from_be_bytes w64 (take 8 (drop (at + 7) bytes)) → front.len ≡ from_be_bytes w32 (take 4 (drop (at + 15) bytes))
      → front_at mark (drop at bytes) ≡ cond (is_front mark front) (Some (front, drop (at + 19) bytes)) None
  front_read bytes at long kind bucket number version len =
      let first : front.kind ≡ slice_index (take 1 (drop at bytes)) 0 = kind ∙ sym (get_or-take 1 (drop at bytes) 0 0 (omega arith) ∙ get_or-drop at bytes 0 0 ∙ ap (slice_index bytes) (omega arith)) in
      let a = byte_is bytes at (take 1 (drop at bytes)) front.kind first (part_is 1 bytes at (omega arith)) in
      let b = number_is w16 bytes (at + 1) (take 2 (drop (at + 1) bytes)) front.node.bucket bucket (part_is 2 bytes (at + 1) (omega arith)) in
      let n = number_is w32 bytes (at + 3) (take 4 (drop (at + 3) bytes)) front.node.number number (part_is 4 bytes (at + 3) (omega arith)) in
      let v = number_is w64 bytes (at + 7) (take 8 (drop (at + 7) bytes)) front.version version (part_is 8 bytes (at + 7) (omega arith)) in
      let l = number_is w32 bytes (at + 15) (take 4 (drop (at + 15) bytes)) front.len len (part_is 4 bytes (at + 15) (omega arith)) in
      front_is (drop at bytes) (drop (at + 1) bytes) (drop (at + 3) bytes) (drop (at + 7) bytes) (drop (at + 15) bytes) (drop (at + 19) bytes) a.1
      (b.1 ∙ moved bytes front.node.bucket (at + 1 + 2) (at + 3) (omega arith)) (n.1 ∙ moved bytes front.node.number (at + 3 + 4) (at + 7) (omega arith))
      (v.1 ∙ moved bytes front.version (at + 7 + 8) (at + 15) (omega arith)) (l.1 ∙ moved bytes front.len (at + 15 + 4) (at + 19) (omega arith))
