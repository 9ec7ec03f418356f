-- Where the parts of a chain come from, once neighbours of an earlier one were merged.
use Rattle.std.specs.Prelude.{◌≡◌, ◌⊎◌, ℕ, ◌≤◌, List, [], ◌∷◌, ◌++◌, length, Option, Some}
use Rattle.fine_model.specs.declared.Part.{Part}
use Rattle.fine_model.specs.declared.Row.{Row}
use Rattle.fine_model.specs.Chain.{chain_end, regions_of}
use Rattle.fine_model.specs.Regions.{Image}
use Rattle.fine_model.specs.Views.{SameSeen, TellsRowsOf}

-- the first epoch of some parts, or 0
abbrev pub chain_start : List Part → ℕ
chain_start [] = 0
chain_start (p ∷ parts) = p.header.range.first

-- A part that is now, made of neighbours that were: it has their epochs. Where the disk told its bytes, it is in the grammar, be the neighbours in it or not.
pub record IsMadeOf (region_len : ℕ) (was now : Option Image) (own : List Part) (p : Part) : Type 0 where
  pub several : 2 ≤ length own
  pub first : p.header.range.first ≡ chain_start own
  pub last : p.header.range.last ≡ chain_end own
  pub good : (image : Image) → was ≡ Some image → (rows : List Row) × TellsRowsOf now region_len (p ∷ []) rows

-- a part that stayed, with the bytes that it had, or one that was made of neighbours
abbrev pub ComesFrom : ℕ → Option Image → Option Image → List Part → Part → Type 0
ComesFrom region_len was now own p = ((own ≡ p ∷ []) × SameSeen (regions_of p) was now) ⊎ IsMadeOf region_len was now own p

-- All parts of a chain come from those of an earlier one, in their order, none left out.
abbrev pub AreFrom : ℕ → Option Image → Option Image → List Part → List Part → Type 0
AreFrom region_len was now before [] = before ≡ []
AreFrom region_len was now before (p ∷ after) =
    (own rest : List Part) × (before ≡ own ++ rest) × ComesFrom region_len was now own p × AreFrom region_len was now rest after
