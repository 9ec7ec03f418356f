-- What was read of a span, by what the eye tells of the part.
use Rattle.std.proofs.Common.{◌≡◌, ℕ, zero, suc, ◌+◌, ◌-◌, ◌≤◌, List, [], ◌∷◌, ◌++◌, length, take, drop, replicate, Option, Some, None, refl, sym, ap, ◌∙◌, subst, arith, length-append, drop_at}
use Rattle.std.specs.Prelude.{slice_range, IfSome}
use Rattle.std.proofs.lemmas.List.{drop-take, length-replicate, take_all}
use Rattle.log_disk.specs.Disk.{Eye}
use Rattle.fine_model.specs.declared.NodeId.{NodeId}
use Rattle.fine_model.specs.declared.Part.{Part}
use Rattle.fine_model.specs.declared.Row.{Row}
use Rattle.fine_model.specs.Nodes.{rows_of}
use Rattle.fine_model.specs.Regions.{Image, body_in}
use Rattle.fine_model.specs.Seek.{SpanHolds, IsBadInSpan, span_bytes}
use Rattle.partition_index.specs.declared.entries.Span.{Span}
use Rattle.partition_index.specs.Entries.{row_span_of}
use Rattle.partition_index.specs.Parts.{IsSeen}
use Rattle.partition_index.specs.Search.{IfTold, IsRangeAt, TellsRows, span_for}
use Rattle.partition_index.proofs.Looking.{range_is, told_as}
use Rattle.partition_index.proofs.InSpan.{own_in_span}
use Rattle.node_fetch.specs.Fetched.{IsBodyOf, HoldsRows}
use Rattle.node_fetch.proofs.SpanLaws.{holds_same, never_bad}

pub map_told : (P Q : Image → Type 0) (known : Option Image) → ((image : Image) → P image → Q image) → IfSome known P → IfSome known Q
map_told P Q None f h = tt
map_told P Q (Some image) f h = f image h

take_less : (n m : ℕ) (xs : List ℕ) → n ≤ m → take n (take m xs) ≡ take n xs
take_less zero m xs le = refl
take_less (suc n) zero xs le = absurd (omega (arith, le))
take_less (suc n) (suc m) [] le = refl
take_less (suc n) (suc m) (x ∷ xs) le = ap (λ ys. x ∷ ys) (take_less n m xs (omega (arith, le)))

range_in_area : (body : List ℕ) (at end area n : ℕ) → n ≡ end - at → at ≤ end → end ≤ area → slice_range body at (at + n) ≡ take (end - at) (drop at (take area body))
range_in_area body at end area n long order within =
    let whole : area ≡ at + (area - at) = omega arith in
    range_is body at (at + n) (end - at) (omega (arith, long))
    ∙ sym (ap (λ m. take (end - at) (drop at (take m body))) whole ∙ ap (take (end - at)) (drop-take at (area - at) body) ∙ take_less (end - at) (area - at) (drop at body) (omega arith))

module _ (known : Option Image) (p : Part) (span : Span) (bytes : List ℕ) where
  abbrev AreRead : Type 0
  AreRead = IfTold known p (λ body. bytes ≡ span_bytes p.header body (row_span_of span))

  are_read : length bytes ≡ span.end - span.at → span.at ≤ span.end → span.end ≤ p.header.area → IfSome known (λ image. bytes ≡ slice_range (body_in image p.region p.header) span.at (span.at + length bytes)) → AreRead
  are_read long order within =
      map_told (λ image. bytes ≡ slice_range (body_in image p.region p.header) span.at (span.at + length bytes)) (λ image. bytes ≡ span_bytes p.header (body_in image p.region p.header) (row_span_of span)) known
      (λ image is. is ∙ range_in_area (body_in image p.region p.header) span.at span.end p.header.area (length bytes) long order within)

  -- what was read, as the bytes of a body: the one that the eye tells, or else one that has them there
  pub record IsRead : Type 0 where
    pub body : List ℕ
    pub is_body : IsBodyOf known p body
    pub is_read : bytes ≡ span_bytes p.header body (row_span_of span)

body_read : (known : Option Image) (p : Part) (span : Span) (bytes : List ℕ) → AreRead known p span bytes → length bytes ≡ span.end - span.at → span.at ≤ span.end → span.end ≤ p.header.area → IsRead known p span bytes
body_read None p span bytes are long order within = record { body = zeros ++ bytes; is_body = tt; is_read = sym there }
  where
    zeros : List ℕ
    zeros = replicate span.at 0

    front : length zeros ≡ span.at
    front = length-replicate span.at 0

    all : take p.header.area (zeros ++ bytes) ≡ zeros ++ bytes
    all = take_all p.header.area (zeros ++ bytes) (omega (arith, length-append zeros bytes, front, long, order, within))

    there : take (span.end - span.at) (drop span.at (take p.header.area (zeros ++ bytes))) ≡ bytes
    there =
        ap (λ xs. take (span.end - span.at) (drop span.at xs)) all ∙ ap (take (span.end - span.at)) (drop_at zeros bytes span.at front)
        ∙ take_all (span.end - span.at) bytes (omega (arith, long))
body_read (Some image) p span bytes are long order within = record { body = body_in image p.region p.header; is_body = refl; is_read = are }

-- so where they are told at the span's offset
pub range_read : (known : Option Image) (p : Part) (span : Span) (bytes : List ℕ) → IsRangeAt known p span.at bytes → length bytes ≡ span.end - span.at → span.at ≤ span.end → span.end ≤ p.header.area → IsRead known p span bytes
range_read known p span bytes range long order within = body_read known p span bytes (are_read known p span bytes long order within range) long order within

-- the body that was read is the one that an eye tells
body_as_told : (known : Option Image) (p : Part) (image : Image) (body : List ℕ) → known ≡ Some image → IsBodyOf known p body → body ≡ body_in image p.region p.header
body_as_told known p image body told is = told_as (λ i. body ≡ body_in i p.region p.header) known image told is

module _ (eye : Eye) (p : Part) (span : Span) (id : NodeId) (rows : List Row) (seen : IsSeen eye p) (t : TellsRows eye p rows) (is : span ≡ span_for rows id) where
  own : SpanHolds p.header (body_in t.image p.region p.header) (row_span_of span) id (rows_of id rows)
  own = subst (λ s. SpanHolds p.header (body_in t.image p.region p.header) (row_span_of s) id (rows_of id rows)) (sym is) (own_in_span eye p rows id seen t)

  -- in a region in the grammar, the rows that are read are the node's rows
  pub read_own : (found : List Row) → HoldsRows eye.told p id span found → found ≡ rows_of id rows
  read_own found h =
      let here = subst (λ body. SpanHolds p.header body (row_span_of span) id found) (body_as_told eye.told p t.image h.body t.told h.is_body) h.holds in
      holds_same p.header (body_in t.image p.region p.header) (row_span_of span) id (rows_of id rows) own found here

  -- and no place is bad
  pub read_well : (body : List ℕ) (at : ℕ) → IsBodyOf eye.told p body → IsBadInSpan p.header body (row_span_of span) id at → ⊥
  read_well body at is_body bad =
      let here = subst (λ b. IsBadInSpan p.header b (row_span_of span) id at) (body_as_told eye.told p t.image body t.told is_body) bad in
      never_bad p.header (body_in t.image p.region p.header) (row_span_of span) id (rows_of id rows) own at here
