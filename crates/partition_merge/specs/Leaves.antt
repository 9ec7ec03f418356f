-- Leaf images that pairs are put into as they are spelled.
use Rattle.std.specs.Prelude.{◌≡◌, ℕ, Bool, true, List, [], ◌∷◌, ◌++◌, map, take, Option, Some, None}
use Rattle.std.specs.Int.{to_be_bytes, w16, w32, w64}
use Rattle.std.specs.List.{AllByRecursion}
use Rattle.fine_model.specs.declared.Mark.{Mark}
use Rattle.fine_model.specs.declared.Node.TheVariants as node
use Rattle.fine_model.specs.declared.NodeId.{NodeId}
use Rattle.fine_model.specs.declared.Rec.{Rec}
use Rattle.fine_model.specs.declared.Rec.TheVariants as rec
use Rattle.fine_model.specs.declared.Row.{Row}
use Rattle.fine_model.specs.Map.{Pair}
use Rattle.fine_model.specs.Nodes.{Content, changed, replay}
use Rattle.fine_model.specs.RowBytes.{FitsRec, FitsRow, body, kind, pair_bytes, row_bytes, row_len, rows_bytes}
use Rattle.partition_merge.specs.declared.leaf.NodeImage.{NodeImage}
use Rattle.partition_merge.specs.Merging.{merged_of}

-- the key with which a spelled pair begins
abbrev pub key_of : List ℕ → List ℕ
key_of [] = []
key_of (n ∷ rest) = take n rest

-- bytes are rows
pub record AreRows (mark : Mark) (bytes : List ℕ) (rows : List Row) : Type 0 where
  pub fit : AllByRecursion (FitsRow mark) rows
  pub spelled : bytes ≡ rows_bytes rows

-- a row as it is spelled: its kind, its version, its body and what is behind it
pub record IsRowBefore (row : Row) (rest : List ℕ) (kind_is version : ℕ) (text behind : List ℕ) : Type 0 where
  pub kind_same : kind_is ≡ kind row.rec
  pub version_same : version ≡ row.version
  pub text_is : text ≡ body row.rec
  pub behind_is : behind ≡ rest

-- spelled pairs are those of a leaf
pub record SpellsLeaf (texts : List (List ℕ)) (pairs : List Pair) : Type 0 where
  pub spelled : texts ≡ map pair_bytes pairs
  pub fits : FitsRec (rec.LeafImage pairs)

-- spelled pairs are those of a leaf that a change leaves of pairs
pub record IsChanged (old : List Pair) (change : Rec) (texts : List (List ℕ)) : Type 0 where
  pub pairs : List Pair
  pub leaf : SpellsLeaf texts pairs
  pub same : changed (node.Leaf old) change ≡ node.Leaf pairs

-- spelled pairs are those of a leaf that leaves a content with the rows that bytes spell, and more behind them
pub record LeadsTo (mark : Mark) (content : Content) (texts : List (List ℕ)) (version : ℕ) (left : List ℕ) (more : List Row) : Type 0 where
  pub pairs : List Pair
  pub leaf : SpellsLeaf texts pairs
  pub rows : List Row
  pub are_rows : AreRows mark left rows
  pub same : content ≡ replay (node.Leaf pairs, version) (rows ++ more)

-- spelled pairs are those of a leaf that is the content
pub record IsLeft (content : Content) (texts : List (List ℕ)) (version : ℕ) : Type 0 where
  pub pairs : List Pair
  pub leaf : SpellsLeaf texts pairs
  pub same : content ≡ (node.Leaf pairs, version)

-- what stands before the body of a row
abbrev pub front : ℕ → NodeId → ℕ → ℕ → List ℕ
front kind_is id version len = kind_is ∷ to_be_bytes w16 id.bucket ++ to_be_bytes w32 id.number ++ to_be_bytes w64 version ++ to_be_bytes w32 len

-- the rows of a node are merged into an image of so many bytes, which are these, where they were asked for
pub record IsImageOf (spells : Bool) (id : NodeId) (own : List Row) (bytes : List ℕ) (len : ℕ) : Type 0 where
  pub row : Row
  pub joined : merged_of id own ≡ row ∷ []
  pub fits : FitsRec row.rec
  pub long : len ≡ row_len row
  pub spelled : spells ≡ true → bytes ≡ row_bytes row

-- so where there is an image, and else these rows stay
abbrev pub IsMergedInto : Bool → NodeId → List Row → Option NodeImage → Type 0
IsMergedInto spells id own None = merged_of id own ≡ own
IsMergedInto spells id own (Some image) = IsImageOf spells id own image.bytes.items image.len
