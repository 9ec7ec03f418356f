-- What holds of the states of a view that is a source of nodes: loads follow one another, each state tells the same rows, and where a view
-- tells rows no fault of it is damage.
use Rattle.std.proofs.Common.{◌≡◌, ◌∙◌, ℕ, List, refl, sym, subst, arith}
use Rattle.std.specs.Prelude.{Any, Option}
use Rattle.fine_model.specs.declared.FetchFault.{FetchFault}
use Rattle.fine_model.specs.declared.FetchFault.TheVariants as fetch_fault
use Rattle.fine_model.specs.declared.NodeId.{NodeId}
use Rattle.fine_model.specs.declared.Part.{Part}
use Rattle.fine_model.specs.declared.Row.{Row}
use Rattle.fine_model.specs.Nodes.{Content}
use Rattle.fine_model.specs.Regions.{Image}
use Rattle.fine_model.specs.Views.{TellsRowsOf}
use Rattle.node_cache.specs.Given.{OnCleanFault}
use Rattle.node_fetch.specs.Fetched.{HasBadEntry, HasBadRow, IsReplayOf}
use Rattle.node_fetch.proofs.ReadBack.{replay_same}
use Rattle.partition_hold.specs.Sources.{Fails, IsClean, IsLater, finds_in, tells_rows}
use Rattle.partition_hold.specs.Views.{SameView, ViewValue}

pub same_itself : (v : ViewValue) → SameView v v
same_itself v = record { eye = record { number = refl; regions = refl; region_len = refl; told = refl }; parts = refl; upto = refl; place = (refl, refl); region_len = refl }

pub same_on : (u v w : ViewValue) → SameView u v → SameView v w → SameView u w
same_on u v w a b = record {
  eye = record { number = b.eye.number ∙ a.eye.number; regions = b.eye.regions ∙ a.eye.regions; region_len = b.eye.region_len ∙ a.eye.region_len; told = b.eye.told ∙ a.eye.told };
  parts = b.parts ∙ a.parts;
  upto = b.upto ∙ a.upto;
  place = (b.place.0 ∙ a.place.0, b.place.1 ∙ a.place.1);
  region_len = b.region_len ∙ a.region_len;
}

pub later_itself : (v : ViewValue) → IsLater v v
later_itself v = record { same = same_itself v; no_lower = omega arith }

pub later_on : (u v w : ViewValue) → IsLater u v → IsLater v w → IsLater u w
later_on u v w a b = record { same = same_on u v w a.same b.same; no_lower = omega (arith, a.no_lower, b.no_lower) }

tells_as : (known now : Option Image) (len length : ℕ) (parts others : List Part) (rows : List Row) → now ≡ known → length ≡ len → others ≡ parts → TellsRowsOf known len parts rows → TellsRowsOf now length others rows
tells_as known now len length parts others rows told long same t =
    subst (λ k. TellsRowsOf k length others rows) (sym told) (subst (λ n. TellsRowsOf known n others rows) (sym long) (subst (λ ps. TellsRowsOf known len ps rows) (sym same) t))

pub later_tells : (s t : ViewValue) (rows : List Row) → IsLater s t → tells_rows s rows → tells_rows t rows
later_tells s t rows l told = tells_as s.eye.told t.eye.told s.region_len t.region_len s.parts t.parts rows l.same.eye.told l.same.region_len l.same.parts told

pub tells_before : (s t : ViewValue) (rows : List Row) → IsLater s t → tells_rows t rows → tells_rows s rows
tells_before s t rows l told = tells_as t.eye.told s.eye.told t.region_len s.region_len t.parts s.parts rows (sym l.same.eye.told) (sym l.same.region_len) (sym l.same.parts) told

pub fails_earlier : (s t u : ViewValue) (fault : FetchFault) → IsLater s t → Fails t fault u → Fails s fault u
fails_earlier s t u fetch_fault.Failed l f = omega (arith, l.no_lower, f)
fails_earlier s t u (fetch_fault.BadRow region at) l f = (
  λ rows told. f.0 rows (later_tells s t rows l told),
  (
    f.1.0,
    subst (Any (λ p. HasBadRow s.eye.told s.region_len p f.1.0 (record { region = region; at = at }))) l.same.parts
        (subst (λ n. Any (λ p. HasBadRow s.eye.told n p f.1.0 (record { region = region; at = at })) t.parts) l.same.region_len
        (subst (λ k. Any (λ p. HasBadRow k t.region_len p f.1.0 (record { region = region; at = at })) t.parts) l.same.eye.told f.1.1)),
  ),
)
fails_earlier s t u (fetch_fault.BadIndex region at) l f = (
  λ rows told. f.0 rows (later_tells s t rows l told),
  subst (Any (λ p. HasBadEntry s.eye.told s.region_len p (record { region = region; at = at }))) l.same.parts
      (subst (λ n. Any (λ p. HasBadEntry s.eye.told n p (record { region = region; at = at })) t.parts) l.same.region_len
      (subst (λ k. Any (λ p. HasBadEntry k t.region_len p (record { region = region; at = at })) t.parts) l.same.eye.told f.1)),
)
fails_earlier s t u fetch_fault.NoMemory l f = tt

pub fails_told : (s t : ViewValue) (rows : List Row) (fault : FetchFault) → tells_rows s rows → Fails s fault t → OnCleanFault fault ⊥
fails_told s t rows fetch_fault.Failed told f = tt
fails_told s t rows (fetch_fault.BadRow region at) told f = f.0 rows told
fails_told s t rows (fetch_fault.BadIndex region at) told f = f.0 rows told
fails_told s t rows fetch_fault.NoMemory told f = tt

-- what a view finds later, it finds now
pub finds_before : (s t : ViewValue) (id : NodeId) (found : Content) → IsLater s t → finds_in t id found → finds_in s id found
finds_before s t id found l f = subst (λ ps. IsReplayOf s.eye ps id found) l.same.parts (replay_same s.eye t.eye t.parts id found l.same.eye f)

pub later_upper : (s t : ViewValue) → IsLater s t → t.upto ≡ s.upto
later_upper s t l = l.same.upto

pub clean_itself : (v : ViewValue) → IsClean v v
clean_itself v = refl

pub clean_on : (s t u : ViewValue) → IsClean s t → IsClean t u → IsClean s u
clean_on s t u a b = b ∙ a
