-- A sealed region has one range and one list of rows, and an image shows one epoch and one list of rows.
use Rattle.std.proofs.Common.{◌≡◌, ℕ, List, [], ◌∷◌, ◌++◌, length, sym, ap, ◌∙◌, subst, append_assoc, Some, Ok}
use Rattle.std.specs.Prelude.{Result, Option}
use Rattle.std.specs.List.{AllByRecursion}
use Rattle.fine_model.specs.Types.{Row, Range, Header, Part, Damage}
use Rattle.fine_model.specs.RowBytes.{row_bytes, rows_bytes, FitsRow}
use Rattle.fine_model.specs.Regions.{Image, body_in, index_bytes, IsSealed}
use Rattle.fine_model.specs.Chain.{chain_end, AreRowsOf, Shows}
use Rattle.fine_model.proofs.Chain.Spelling.{flat_spelling, row_spelling}

pub record SamePartition (range range' : Range) (rows rows' : List Row) : Type 0 where
  pub same_range : range ≡ range'
  pub same_rows : rows ≡ rows'

pub IsSealed-unique : (region_len : ℕ) (image : Image) (lead : ℕ) (range range' : Range) (rows rows' : List Row)
    → IsSealed region_len image lead range rows → IsSealed region_len image lead range' rows' → SamePartition range range' rows rows'
unfolding rows_bytes
IsSealed-unique region_len image lead range range' rows rows' s t =
    let headers : ◌≡◌ {A = Result (Option Header) ℕ} (Ok (Some s.header)) (Ok (Some t.header)) = sym s.has_header ∙ t.has_header in
    let same : s.header ≡ t.header = cc in
    let long : length rows ≡ length rows' = sym s.of_rows.0 ∙ ap (λ h. h.rows) same ∙ t.of_rows.0 in
    let e : rows_bytes rows ++ (index_bytes rows ++ s.spelled.0) ≡ rows_bytes rows' ++ (index_bytes rows' ++ t.spelled.0) =
    sym (append_assoc (rows_bytes rows) (index_bytes rows) s.spelled.0) ∙ sym s.spelled.1 ∙ ap (body_in image lead) same ∙ t.spelled.1 ∙ append_assoc (rows_bytes rows') (index_bytes rows') t.spelled.0 in
    let r = flat_spelling row_bytes (FitsRow s.header.mark) (row_spelling s.header.mark) rows rows' (index_bytes rows ++ s.spelled.0) (index_bytes rows' ++ t.spelled.0) long s.rows_fit (subst (λ h. AllByRecursion (FitsRow h.mark) rows') (sym same) t.rows_fit) e in
    record { same_range = sym s.of_range ∙ ap (λ h. h.range) same ∙ t.of_range; same_rows = r.0 }

pub AreRowsOf-unique : (region_len : ℕ) (image : Image) (parts : List Part) (rows rows' : List Row)
    → AreRowsOf region_len image parts rows → AreRowsOf region_len image parts rows' → rows ≡ rows'
unfolding AreRowsOf
AreRowsOf-unique region_len image [] rows rows' a b = a ∙ sym b
AreRowsOf-unique region_len image (p ∷ parts) rows rows' a b =
    let own = IsSealed-unique region_len image p.region p.header.range p.header.range a.0 b.0 a.3 b.3 in
    let more = AreRowsOf-unique region_len image parts a.1 b.1 a.4 b.4 in
    a.2 ∙ ap (λ xs. xs ++ a.1) own.same_rows ∙ ap (λ xs. b.0 ++ xs) more ∙ sym b.2

-- an image shows one epoch and one list of rows
pub Shows-unique : (region_len : ℕ) (image : Image) (e e' : ℕ) (rows rows' : List Row) → Shows region_len image e rows → Shows region_len image e' rows' → (e ≡ e') × (rows ≡ rows')
Shows-unique region_len image e e' rows rows' s t =
    let chains : ◌≡◌ {A = Result (List Part) Damage} (Ok s.parts) (Ok t.parts) = sym s.is_chain ∙ t.is_chain in
    let same : s.parts ≡ t.parts = cc in (
      s.ends ∙ ap chain_end same ∙ sym t.ends,
      AreRowsOf-unique region_len image t.parts rows rows' (subst (λ ps. AreRowsOf region_len image ps rows) same s.are_rows) t.are_rows,
    )
