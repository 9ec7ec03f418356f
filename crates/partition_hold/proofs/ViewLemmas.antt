-- What a view tells.
use Rattle.std.proofs.Common.{◌≡◌, ◌<◌, ◌≤◌, ◌∙◌, ℕ, List, [], ◌∷◌, ◌++◌, Some, refl, sym, ap, subst, append-nil}
use Rattle.std.specs.Prelude.{Contains}
use Rattle.std.specs.List.{AllByRecursion}
use Rattle.std.proofs.lemmas.List.Elements.{All-contains, All-from_recursion}
use Rattle.fine_model.specs.declared.Part.{Part}
use Rattle.fine_model.specs.Boards.{set_of}
use Rattle.fine_model.specs.declared.Row.{Row}
use Rattle.fine_model.specs.Regions.{Image, HasHeader}
use Rattle.fine_model.specs.Chain.{AreRowsOf, regions_of}
use Rattle.fine_model.proofs.Chain.Setting.{set_keeps}
use Rattle.partition_index.specs.Parts.{IsSeen, SameEye}
use Rattle.partition_index.specs.Search.{TellsRows as TellsPart}
use Rattle.log_disk.specs.Disk.{Eye}
use Rattle.node_fetch.proofs.Blames.{same_header}
use Rattle.node_fetch.proofs.Parts.{later_seen}
use Rattle.partition_hold.specs.Views.{ViewValue, IsView, SameView, TellsEach, ViewNames, ViewTells, ViewTellsEach, ViewTellsPart}

pub view_tells : ViewTells
view_tells v rows is tells = record {
  image = tells.image;
  told = tells.is_told;
  headers = subst (λ len. AllByRecursion (λ p. HasHeader len tells.image p.region p.header) v.parts) is.long tells.headers;
  are_rows = subst (λ len. AreRowsOf len tells.image v.parts rows) is.long tells.are_rows;
}

-- what an image tells of parts that have their headers
each_told : (eye : Eye) (image : Image) (parts : List Part) (rows : List Row) → eye.told ≡ Some image → AllByRecursion (λ p. HasHeader eye.region_len image p.region p.header) parts → AreRowsOf eye.region_len image parts rows → TellsEach eye parts rows
unfolding AreRowsOf
each_told eye image [] rows told headers are = are
each_told eye image (p ∷ parts) rows told headers are = (
  are.0,
  are.1,
  are.2,
  record { image = image; told = told; sealed = are.3; of_part = same_header eye.region_len image p are.0 are.3 headers.0 },
  each_told eye image parts are.1 told headers.1 are.4,
)

pub view_each : ViewTellsEach
view_each v rows is tells = let t = view_tells v rows is tells in each_told v.eye t.image v.parts rows t.told t.headers t.are_rows

pub view_part : ViewTellsPart
view_part v p rows is tells =
    let headers = subst (λ len. AllByRecursion (λ p. HasHeader len tells.image p.region p.header) (p ∷ [])) is.long tells.headers in
    let t = each_told v.eye tells.image (p ∷ []) rows tells.is_told headers (subst (λ len. AreRowsOf len tells.image (p ∷ []) rows) is.long tells.are_rows) in
    subst (TellsPart v.eye p) (sym (t.2 ∙ ap (λ xs. t.0 ++ xs) t.4 ∙ append-nil t.0)) t.3

-- regions that are among some below 64 are in the set of these
all_named : (some regions : List ℕ) → AllByRecursion (λ r. r < 64) some → AllByRecursion (Contains some) regions → AllByRecursion (Contains (set_of some)) regions
all_named some [] small named = tt
all_named some (r ∷ rs) small named =
    (set_keeps some r named.0 (All-contains (λ r. r < 64) some r (All-from_recursion (λ r. r < 64) some small) named.0), all_named some rs small named.1)

parts_named : (v : ViewValue) (parts : List Part) → AllByRecursion (λ r. r < 64) v.eye.regions → AllByRecursion (IsSeen v.eye) parts → AllByRecursion (λ p. AllByRecursion (Contains (set_of v.eye.regions)) (regions_of p)) parts
parts_named v [] small seen = tt
parts_named v (p ∷ parts) small seen = (let s = seen.0 in all_named v.eye.regions (regions_of p) small s.named, parts_named v parts small seen.1)

pub view_names : ViewNames
view_names v is = parts_named v v.parts is.small is.seen

-- a view that is the same but for its eye's counts is still one
pub view_same : (old new : ViewValue) → SameView old new → IsView old → IsView new
view_same old new same is = record {
  seen = subst (AllByRecursion (IsSeen new.eye)) (sym same.parts) (later_seen old.eye new.eye old.parts same.eye is.seen);
  long = same.region_len ∙ is.long ∙ sym same.eye.region_len;
  small = subst (AllByRecursion (λ r. r < 64)) (sym same.eye.regions) is.small;
  place = (subst (λ n. 1 ≤ n) (sym same.place.0) is.place.0, subst (λ n. n < 3) (sym same.place.1) is.place.1);
}

pub eye_again : (v : ViewValue) (eye : Eye) → SameEye v.eye eye → IsView v → IsView (record { eye = eye; parts = v.parts; upto = v.upto; seat = v.seat; buffer = v.buffer; region_len = v.region_len })
eye_again v eye same is =
    view_same v (record { eye = eye; parts = v.parts; upto = v.upto; seat = v.seat; buffer = v.buffer; region_len = v.region_len })
    (record { eye = same; parts = refl; upto = refl; place = (refl, refl); region_len = refl }) is
