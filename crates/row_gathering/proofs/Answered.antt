-- What was read and arranged is what gathering answers, and where it is not arranged no rows in order are those of the parts.
use Rattle.std.proofs.Common.{◌≡◌, ℕ, zero, suc, ◌<◌, ◌≤◌, List, [], ◌∷◌, ◌++◌, length, take, sym, ap, ◌∙◌, subst, arith, Option, Some, None, IfSome, IsTrue}
use Rattle.std.specs.Prelude.{Any, slice_index_or}
use Rattle.std.specs.List.{AllByRecursion}
use Rattle.std.proofs.lemmas.List.{take-append-le, take-take}
use Rattle.fine_model.specs.declared.Mark.TheVariants as mark
use Rattle.fine_model.specs.declared.Part.{Part}
use Rattle.fine_model.specs.declared.Row.{Row}
use Rattle.fine_model.specs.Chain.{AreRowsOf}
use Rattle.fine_model.specs.Merge.{is_ordered}
use Rattle.fine_model.specs.Nodes.{rows_of}
use Rattle.fine_model.specs.Regions.{HasHeader, Image, IsSealed}
use Rattle.fine_model.proofs.Ordered.Permuted.{permuted_law}
use Rattle.fine_model.proofs.Chain.Unique.{AreRowsOf-unique}
use Rattle.log_disk.specs.Disk.{Disk, Told}
use Rattle.log_partition.proofs.RowsRead.{rises}
use Rattle.node_record.specs.Keys.{AreKeysOf}
use Rattle.node_record.specs.declared.key.RowAt.{RowAt}
use Rattle.row_gathering.specs.Gathering.{AreGathered, GathersRows, LackRows}
use Rattle.row_gathering.specs.Steps.{AreRead, Arranges, FitTogether, LacksPart, NoneInOrder}
use Rattle.row_gathering.specs.declared.gathering.Gathered.{Gathered}
use Rattle.row_gathering.proofs.Bodies.{all_at}

-- P of what a disk tells, where parts have their headers in it
abbrev IfThere : Disk → List Part → (Told → Type 0) → Option Told → Type 0
IfThere disk parts P told = IfSome told (λ t. AllByRecursion (λ p. HasHeader disk.region_len t.bytes p.region p.header) parts → P t)

pub gathers : (disk : Disk) (parts : List Part) (len : ℕ) (bytes : List ℕ) (keys : List RowAt) (gathered : Gathered) → FitTogether disk.region_len parts len → (read : AreRead disk parts bytes keys) → Arranges bytes read.rows gathered
    → GathersRows disk parts gathered
gathers disk parts len bytes keys gathered fit read arranged =
    let alike = permuted_law read.rows arranged.rows arranged.permuted in record {
      rows = arranged.rows;
      at = record {
        are = subst (λ xs. AreKeysOf xs arranged.rows gathered.keys.items) (sym arranged.kept) arranged.are;
        rising = rises arranged.rows arranged.ordered;
        within = omega (arith, alike.same_cost, read.costs, fit.sum, fit.fit);
      };
      ordered = arranged.ordered;
      fit = alike.fit mark.Two read.are.fit;
      own = read.rows;
      spelled = arranged.kept ∙ read.are.spelled;
      permuted = arranged.permuted;
      same = arranged.same;
      of_parts = read.told;
      told = by disk.told read.told;
    }
  where
    by : (told : Option Told) → IfThere disk parts (λ t. AreRowsOf disk.region_len t.bytes parts read.rows) told → IfThere disk parts (λ t. AreGathered disk.region_len t.bytes parts arranged.rows) told
    by None all = tt
    by (Some t) all = λ headers. record { own = read.rows; are_rows = all headers; permuted = arranged.permuted; same = arranged.same }

-- rows that are not in order in any way that leaves each node its own
pub none_gathered : (disk : Disk) (parts : List Part) (bytes : List ℕ) (keys : List RowAt) → (read : AreRead disk parts bytes keys) → NoneInOrder read.rows → LackRows disk parts
none_gathered disk parts bytes keys read none = by disk.told read.told
  where
    by : (told : Option Told) → IfThere disk parts (λ t. AreRowsOf disk.region_len t.bytes parts read.rows) told
        → IfThere disk parts (λ t. (rows : List Row) → IsTrue (is_ordered rows) → AreGathered disk.region_len t.bytes parts rows → ⊥) told
    by None all = tt
    by (Some t) all = λ headers rows ordered gathered.
        let one : gathered.own ≡ read.rows = AreRowsOf-unique disk.region_len t.bytes parts gathered.own read.rows gathered.are_rows (all headers) in
        none rows ordered (record { of_each = λ id. gathered.same.of_each id ∙ ap (rows_of id) one })

-- one of parts that have rows is in the grammar
part_there : (region_len : ℕ) (image : Image) (parts : List Part) (rows : List Row) (k : ℕ) (p : Part) → AreRowsOf region_len image parts rows → k < length parts → slice_index_or parts k p ≡ p
    → (own : List Row) × IsSealed region_len image p.region p.header.range own
unfolding AreRowsOf
part_there region_len image [] rows k p are here is = absurd (omega (arith, here))
part_there region_len image (q ∷ parts) rows zero p are here is = subst (λ x. (own : List Row) × IsSealed region_len image x.region x.header.range own) is (are.0, are.3)
part_there region_len image (q ∷ parts) rows (suc k) p are here is = part_there region_len image parts are.1 k p are.4 (omega (arith, here)) is

-- a part that is not in the grammar has no rows
pub none_of_part : (disk : Disk) (parts : List Part) → Any (LacksPart disk) parts → LackRows disk parts
none_of_part disk parts (k, p, here, is, lacks) = by disk.told lacks
  where
    by : (told : Option Told) → IfSome told (λ t. HasHeader disk.region_len t.bytes p.region p.header → (rows : List Row) → IsSealed disk.region_len t.bytes p.region p.header.range rows → ⊥)
        → IfThere disk parts (λ t. (rows : List Row) → IsTrue (is_ordered rows) → AreGathered disk.region_len t.bytes parts rows → ⊥) told
    by None none = tt
    by (Some t) none = λ headers rows ordered gathered.
        let sealed = part_there disk.region_len t.bytes parts gathered.own k p gathered.are_rows here is in
        none (subst (λ (q : Part). HasHeader disk.region_len t.bytes q.region q.header) is (all_at (λ q. HasHeader disk.region_len t.bytes q.region q.header) parts k p headers here)) sealed.0 sealed.1

-- bytes that were written over in place, and cut off
pub cut_twice : (read rest bytes : List ℕ) (end len : ℕ) → bytes ≡ take end (take len (read ++ rest)) → end ≤ len → len ≡ length read → bytes ≡ take end read
cut_twice read rest bytes end len is low long = is ∙ take-take end len (read ++ rest) low ∙ take-append-le end read rest (omega (arith, low, long))
