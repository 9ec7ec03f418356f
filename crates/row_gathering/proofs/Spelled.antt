-- An index entry is the one that 14 bytes spell exactly where these are its bytes.
use Rattle.std.proofs.Common.{◌≡◌, ℕ, ◌+◌, ◌<◌, ◌≤◌, ◌&&◌, List, ◌++◌, length, take, drop, sym, ap, ◌∙◌, arith, nat_eq}
use Rattle.std.specs.Bool.{Decides}
use Rattle.std.specs.Int.{from_be_bytes, to_be_bytes, w16, w32}
use Rattle.std.proofs.Math.Seq.{take-add}
use Rattle.std.proofs.lemmas.Bool.Decides.{Decides-and, Decides-eqb, Decides-like}
use Rattle.std.proofs.lemmas.List.{length-drop, length-take, take_all}
use Rattle.std.proofs.lemmas.Nat.{be_bytes_2, be_bytes_4, from_be_bytes-to_be_bytes_2, from_be_bytes-to_be_bytes_4}
use Rattle.fine_model.specs.Seek.{entry_of}
use Rattle.node_record.proofs.Readers.{IsBytes, IsBytes-drop, IsBytes-take}
use Rattle.partition_index.specs.Entries.{bytes_of, model_of}
use Rattle.partition_index.specs.declared.entries.IndexEntry.{IndexEntry}

-- the numbers of an entry are within their types
abbrev pub InRange : IndexEntry → Type 0
InRange e = (e.node.bucket < 65536) × (e.node.number < 4294967296) × (e.offset < 4294967296) × (e.rows < 4294967296)

-- an entry's bytes spell it
spelled_again : (e : IndexEntry) → InRange e → entry_of (bytes_of e) 0 ≡ model_of e
unfolding bytes_of
spelled_again e fits = λ i. record {
  node = record { bucket = from_be_bytes-to_be_bytes_2 e.node.bucket fits.0 i; number = from_be_bytes-to_be_bytes_4 e.node.number fits.1 i };
  offset = from_be_bytes-to_be_bytes_4 e.offset fits.2 i;
  rows = from_be_bytes-to_be_bytes_4 e.rows fits.3 i;
}

-- bytes are four fields
in_fields : (bytes : List ℕ) → length bytes ≡ 14 → take 2 bytes ++ take 4 (drop 2 bytes) ++ take 4 (drop 6 bytes) ++ take 4 (drop 10 bytes) ≡ bytes
in_fields bytes long =
    ap (λ (x : List ℕ). x ++ take 4 (drop 6 bytes) ++ take 4 (drop 10 bytes)) (sym (take-add 2 4 bytes))
    ∙ ap (λ (x : List ℕ). x ++ take 4 (drop 10 bytes)) (sym (take-add 6 4 bytes))
    ∙ sym (take-add 10 4 bytes)
    ∙ take_all 14 bytes (omega (arith, long))

-- a field of four bytes
four : (bytes : List ℕ) (at n : ℕ) → at + 4 ≤ length bytes → IsBytes bytes → n ≡ from_be_bytes w32 (take 4 (drop at bytes)) → to_be_bytes w32 n ≡ take 4 (drop at bytes)
four bytes at n long fits is =
    be_bytes_4 (take 4 (drop at bytes)) n (omega (arith, length-take 4 (drop at bytes), length-drop at bytes, long)) (IsBytes-take 4 (drop at bytes) (IsBytes-drop at bytes fits)) is

-- what bytes spell has these bytes
bytes_again : (bytes : List ℕ) (e : IndexEntry) → length bytes ≡ 14 → IsBytes bytes → model_of e ≡ entry_of bytes 0 → bytes_of e ≡ bytes
unfolding bytes_of
bytes_again bytes e long fits is =
    let a : to_be_bytes w16 e.node.bucket ≡ take 2 bytes = be_bytes_2 (take 2 bytes) e.node.bucket (omega (arith, length-take 2 bytes, long)) (IsBytes-take 2 bytes fits) (ap (λ m. m.node.bucket) is) in
    let b : to_be_bytes w32 e.node.number ≡ take 4 (drop 2 bytes) = four bytes 2 e.node.number (omega (arith, long)) fits (ap (λ m. m.node.number) is) in
    let c : to_be_bytes w32 e.offset ≡ take 4 (drop 6 bytes) = four bytes 6 e.offset (omega (arith, long)) fits (ap (λ m. m.offset) is) in
    let d : to_be_bytes w32 e.rows ≡ take 4 (drop 10 bytes) = four bytes 10 e.rows (omega (arith, long)) fits (ap (λ m. m.rows) is) in
    (λ i. a i ++ b i ++ c i ++ d i) ∙ in_fields bytes long

-- entries with the same numbers are one
same_numbers : (s e : IndexEntry) → Decides ((nat_eq s.node.bucket e.node.bucket && nat_eq s.node.number e.node.number) && (nat_eq s.offset e.offset && nat_eq s.rows e.rows)) (s ≡ e)
same_numbers s e =
    Decides-like _
    (λ p. λ i. record { node = record { bucket = p.0.0 i; number = p.0.1 i }; offset = p.1.0 i; rows = p.1.1 i })
    (λ q. ((ap (λ x. x.node.bucket) q, ap (λ x. x.node.number) q), (ap (λ x. x.offset) q, ap (λ x. x.rows) q)))
    (Decides-and _ _
    (Decides-and _ _ (Decides-eqb s.node.bucket e.node.bucket) (Decides-eqb s.node.number e.node.number))
    (Decides-and _ _ (Decides-eqb s.offset e.offset) (Decides-eqb s.rows e.rows)))

-- entries of one model are one
same_model : (s e : IndexEntry) → model_of s ≡ model_of e → s ≡ e
same_model s e is = λ i. record { node = (is i).node; offset = (is i).offset; rows = (is i).rows }

-- the entry that bytes spell has the numbers of another exactly where these are the bytes of the other
pub spells : (bytes : List ℕ) (s e : IndexEntry) → length bytes ≡ 14 → IsBytes bytes → InRange e → model_of s ≡ entry_of bytes 0
    → Decides ((nat_eq s.node.bucket e.node.bucket && nat_eq s.node.number e.node.number) && (nat_eq s.offset e.offset && nat_eq s.rows e.rows)) (bytes ≡ bytes_of e)
spells bytes s e long fits in_range is =
    Decides-like _
    (λ same. sym (bytes_again bytes s long fits is) ∙ ap bytes_of same)
    (λ same. same_model s e (is ∙ ap (λ (x : List ℕ). entry_of x 0) same ∙ spelled_again e in_range))
    (same_numbers s e)
