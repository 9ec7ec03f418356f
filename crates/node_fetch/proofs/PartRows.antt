-- What a search in a part finds of a node's rows.
use Rattle.std.proofs.Common.{◌≡◌, ◌⊎◌, ℕ, ◌+◌, ◌-◌, ◌<◌, ◌≤◌, ◌==◌, Bool, true, false, cond, List, [], length, Option, Some, None, Ok, Err, refl, sym, ap, ◌∙◌, subst, inl, inr, arith, eqb-true}
use Rattle.std.specs.Prelude.{Result, IfOk, MatchResult}
use Rattle.std.proofs.lemmas.List.{nil_from_length}
use Rattle.log_disk.specs.Disk.{Eye}
use Rattle.fine_model.specs.declared.NodeId.{NodeId}
use Rattle.fine_model.specs.declared.Part.{Part}
use Rattle.fine_model.specs.declared.Row.{Row}
use Rattle.fine_model.specs.Nodes.{rows_of}
use Rattle.fine_model.specs.RowBytes.{rows_len}
use Rattle.fine_model.specs.Regions.{Image, IsSealed, body_len}
use Rattle.partition_index.specs.declared.entries.Span.{Span}
use Rattle.partition_index.specs.declared.entries.SeekFault.{SeekFault}
use Rattle.partition_index.specs.declared.entries.SeekFault.TheVariants as fault
use Rattle.partition_index.specs.Parts.{SameEye}
use Rattle.partition_index.specs.Search.{TellsRows, IsSoughtSpan, IsBadAt, LacksNode, sought, span_for}
use Rattle.fine_model.specs.declared.FetchFault.{FetchFault}
use Rattle.node_fetch.specs.Fetched.{HoldsRows, ReadsRows, NoDamage}

abbrev pub SeekResult : Type 0
SeekResult = Result (Option Span) SeekFault

sought_none : (rows : List Row) (id : NodeId) → sought rows id ≡ None → rows_of id rows ≡ []
unfolding sought
sought_none rows id e = by (length (rows_of id rows) == 0) refl e
  where
    by : (t : Bool) → (length (rows_of id rows) == 0) ≡ t → ◌≡◌ {A = Option Span} (cond t None (Some (span_for rows id))) None → rows_of id rows ≡ []
    by true h e = nil_from_length (rows_of id rows) (eqb-true (length (rows_of id rows)) 0 h)
    by false h e = absurd (cc)

sought_some : (rows : List Row) (id : NodeId) (span : Span) → Some span ≡ sought rows id → span ≡ span_for rows id
unfolding sought
sought_some rows id span e = by (length (rows_of id rows) == 0) e
  where
    by : (t : Bool) → ◌≡◌ {A = Option Span} (Some span) (cond t None (Some (span_for rows id))) → span ≡ span_for rows id
    by true e = absurd (cc)
    by false e = cc

pub none_found : (rows : List Row) (id : NodeId) → (◌≡◌ {A = SeekResult} (Ok None) (Err fault.Failed)) ⊎ (◌≡◌ {A = SeekResult} (Ok None) (Ok (sought rows id))) → rows_of id rows ≡ []
none_found rows id (inl e) = absurd (cc)
none_found rows id (inr e) = let s : ◌≡◌ {A = Option Span} None (sought rows id) = cc in sought_none rows id (sym s)

pub some_found : (rows : List Row) (id : NodeId) (span : Span) → (◌≡◌ {A = SeekResult} (Ok (Some span)) (Err fault.Failed)) ⊎ (◌≡◌ {A = SeekResult} (Ok (Some span)) (Ok (sought rows id))) → span ≡ span_for rows id
some_found rows id span (inl e) = absurd (cc)
some_found rows id span (inr e) = let s : ◌≡◌ {A = Option Span} (Some span) (sought rows id) = cc in sought_some rows id span s

-- what an eye tells, it tells also after a call that changed only its counts
pub tells_same : (old new : Eye) (p : Part) (rows : List Row) → SameEye old new → TellsRows old p rows → TellsRows new p rows
tells_same old new p rows same t =
    let P : ℕ → Type 0 = λ len. (s : IsSealed len t.image p.region p.header.range rows) × (s.header ≡ p.header) in
    let both : P new.region_len = subst P (sym same.region_len) (t.sealed, t.of_part) in
    record { image = t.image; told = same.told ∙ t.told; sealed = both.0; of_part = both.1 }

-- an entry stands in the body
pub bad_within : (known : Option Image) (p : Part) (at : ℕ) → IsBadAt known p at → at < body_len p.header
bad_within known p at b = omega (arith, b.there, b.place)

-- how many bytes the rows of a span are
pub span_taken : (old mid new most : ℕ) (rows : List Row) (id : NodeId) (span : Span) → span ≡ span_for rows id → mid ≤ old + most → new ≤ mid + (span.end - span.at) → new ≤ old + (most + rows_len (rows_of id rows))
span_taken old mid new most rows id span is a b = omega (arith, a, b, ap (λ s. s.end) is, ap (λ s. s.at) is)

-- the rows that a span holds are what is read of a part
pub read_found : (r : Result (List Row) FetchFault) (eye now : Eye) (id : NodeId) (p : Part) (span : Span) → SameEye eye now → IsSoughtSpan eye.told p id span → IfOk r (HoldsRows now.told p id span)
    → ((own : List Row) → TellsRows eye p own → MatchResult r (λ rows. rows ≡ rows_of id own) NoDamage) → IfOk r (ReadsRows eye id p)
read_found (Ok rows) eye now id p span same is h exact = record { read = inr (span, is, subst (λ known. HoldsRows known p id span rows) same.told h); exact = exact }
read_found (Err e) eye now id p span same is h exact = tt

-- what was read through an eye that is the same but for its counts
pub reads_same : (old new : Eye) (id : NodeId) (p : Part) (rows : List Row) → SameEye old new → ReadsRows new id p rows → ReadsRows old id p rows
reads_same old new id p rows same r = record {
  read = subst (λ (known : Option Image). ((rows ≡ []) × LacksNode known p id) ⊎ ((span : Span) × IsSoughtSpan known p id span × HoldsRows known p id span rows)) same.told r.read;
  exact = λ own t. r.exact own (tells_same old new p own same t);
}
