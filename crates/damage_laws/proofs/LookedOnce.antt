-- In each part a look for a node finds one list of rows.
use Rattle.std.proofs.Common.{◌≡◌, ◌⊎◌, inl, inr, ℕ, List, [], Option, Some, None, Ok, sym, ap, subst, ◌∙◌}
use Rattle.std.specs.Prelude.{Result}
use Rattle.fine_model.specs.declared.Header.{Header}
use Rattle.fine_model.specs.declared.NodeId.{NodeId}
use Rattle.fine_model.specs.declared.Part.{Part}
use Rattle.fine_model.specs.declared.Row.{Row}
use Rattle.fine_model.specs.Damages.{HasEntryWith, LacksEntry}
use Rattle.fine_model.specs.Regions.{Image, body_in}
use Rattle.fine_model.specs.RowBytes.{FitsRow, row_bytes, rows_bytes}
use Rattle.fine_model.specs.Seek.{RowSpan, SpanHolds, span_at}
use Rattle.fine_model.proofs.Chain.Spelling.{flat_spelling, row_spelling}
use Rattle.partition_merge.specs.Joined.{IsFoundIn}

-- a span holds one list of rows at most
span_once : (header : Header) (body : List ℕ) (span : RowSpan) (id : NodeId) (a b : List Row) → SpanHolds header body span id a → SpanHolds header body span id b → a ≡ b
unfolding rows_bytes
span_once header body span id a b h k =
    let f = h.begins in
    let g = k.begins in
    let both = flat_spelling row_bytes (FitsRow header.mark) (row_spelling header.mark) a b [] [] (h.all ∙ sym k.all) f.fit g.fit (sym f.spelled ∙ g.spelled) in both.0

-- and the search comes to one entry
entry_once : (header : Header) (body : List ℕ) (id : NodeId) (a b : List Row) → HasEntryWith header body id a → HasEntryWith header body id b → a ≡ b
entry_once header body id a b h k =
    let entries : ◌≡◌ {A = Result (Option ℕ) ℕ} (Ok (Some h.entry)) (Ok (Some k.entry)) = sym h.sought ∙ k.sought in
    let same : h.entry ≡ k.entry = cc in
    let spans : ◌≡◌ {A = Result RowSpan ℕ} (Ok h.span) (Ok k.span) = sym h.is_span ∙ ap (span_at header body) same ∙ k.is_span in
    let span : h.span ≡ k.span = cc in span_once header body k.span id a b (subst (λ s. SpanHolds header body s id a) span h.holds) k.holds

-- a look for a node in a part finds one list of rows
pub looked_once : (image : Image) (id : NodeId) (p : Part) (a b : List Row) → IsFoundIn image p id a → IsFoundIn image p id b → a ≡ b
looked_once image id p a b f g = by f g
  where
    body : List ℕ
    body = body_in image p.region p.header

    never : (rows : List Row) → LacksEntry p.header body id → HasEntryWith p.header body id rows → ⊥
    never rows l h = let clash : ◌≡◌ {A = Result (Option ℕ) ℕ} (Ok None) (Ok (Some h.entry)) = sym l.sought ∙ h.sought in cc

    by : ((a ≡ []) × LacksEntry p.header body id) ⊎ HasEntryWith p.header body id a → ((b ≡ []) × LacksEntry p.header body id) ⊎ HasEntryWith p.header body id b → a ≡ b
    by (inl x) (inl y) = x.0 ∙ sym y.0
    by (inl x) (inr k) = absurd (never b x.1 k)
    by (inr h) (inl y) = absurd (never a y.1 h)
    by (inr h) (inr k) = entry_once p.header body id a b h k
