-- What a read of the disk gives of the parts that stay, and of the merged part.
use Rattle.std.proofs.Common.{◌≡◌, ℕ, ◌==◌, Bool, true, false, cond, List, [], ◌∷◌, ◌++◌, drop, Some, None, refl, sym, ap, subst, ◌∙◌, arith, append-nil, eq-eqb, take-append-drop, true≢false}
use Rattle.std.specs.Prelude.{Contains, Option, nat_eq, option_map, option_to_list}
use Rattle.std.specs.List.{AllByRecursion, list_any}
use Rattle.std.proofs.lemmas.Bool.{false_from_ne_true}
use Rattle.std.proofs.lemmas.List.Elements.{All-contains, All-from_recursion, Contains-append_right}
use Rattle.fine_model.specs.declared.Job.{Job}
use Rattle.fine_model.specs.declared.Mark.{Mark}
use Rattle.fine_model.specs.declared.Mark.TheVariants as mark
use Rattle.fine_model.specs.declared.Part.{Part}
use Rattle.fine_model.specs.declared.Row.{Row}
use Rattle.fine_model.specs.declared.law.RoomState.{RoomState}
use Rattle.fine_model.specs.Boards.{buffer_at, set_of}
use Rattle.fine_model.specs.Chain.{AreRowsOf, regions_of}
use Rattle.fine_model.specs.ChainLaws.{part_of}
use Rattle.fine_model.specs.Jobs.{held_by, held_for, job_left}
use Rattle.fine_model.specs.Merge.{merged}
use Rattle.fine_model.specs.Regions.{HasHeader, Image, body_bytes, body_in, region_of}
use Rattle.fine_model.specs.RowBytes.{FitsRow}
use Rattle.fine_model.specs.Views.{SameSeen, TellsRowsOf}
use Rattle.fine_model.proofs.Merging.FitMerged.{merged_fits}
use Rattle.fine_model.proofs.Ordered.Nothing.{all_at, each_there}
use Rattle.fine_model.proofs.Ordered.Order.{all_map}
use Rattle.fine_model.proofs.Chain.Owning.{mark_fits, tells_alike}
use Rattle.fine_model.proofs.Ordered.Sets.{all_append}
use Rattle.log_disk.specs.Disk.{BothTold, Told}
use Rattle.partition_hold.specs.Views.{ViewValue, opened}
use Rattle.partition_hold.proofs.ViewLemmas.{view_names}
use Rattle.partition_merge.specs.declared.merger.Measure.{Measure}
use Rattle.partition_merge.specs.Mergers.{measure_of}
use Rattle.epoch_room.specs.Closing.{DiffersAtGates, ReadsButGates}
use Rattle.epoch_room.specs.Erasing.{unheld}
use Rattle.epoch_room.specs.MergeSealing.{replaced}
use Rattle.epoch_room.specs.MergeSteps.{header_over}
use Rattle.epoch_room.specs.Value.{RoomValue, all_regions}
use Rattle.epoch_room.specs.Whole.{AreApart, IsWhole}
use Rattle.epoch_room.proofs.Erasures.AllErased.{unheld_lead}
use Rattle.epoch_room.proofs.RegionSets.Beside.{regions_together}
use Rattle.epoch_room.proofs.Views.Boarding.{board_shows}
use Rattle.epoch_room.proofs.Erasures.LedParts.{lead_in}
use Rattle.epoch_room.proofs.RegionSets.Taken.{apart_back, other_list}
use Rattle.epoch_room.proofs.Views.Viewing.{all_parts}
use Rattle.room_merges.specs.Merging.{EyeTells, IsOut}
use Rattle.room_merges.specs.Near.{MergesTwo, TellsStill}
use Rattle.room_merges.specs.Pairs.{header_for, job_for}

-- ---- through a view

pub seen_back : (regions : List ℕ) (a b : Option Image) → SameSeen regions a b → SameSeen regions b a
seen_back regions None None same = tt
seen_back regions None (Some b) same = absurd same
seen_back regions (Some a) None same = absurd same
seen_back regions (Some a) (Some b) same = record {
  as_many = sym same.as_many;
  same = all_map (λ r. region_of b r ≡ region_of a r) (λ r. region_of a r ≡ region_of b r) (λ r is. sym is) regions same.same;
}

-- what the eye of a view that is out tells of a part, a read of the disk tells too
pub told_by_disk : (value : RoomValue) (view : ViewValue) (p : Part) (rows : List Row) → IsOut value view → Contains view.parts p → EyeTells view p rows
    → TellsRowsOf value.room.image value.room.region_len (p ∷ []) rows
told_by_disk value view p rows out there tells =
    let shows = board_shows value (buffer_at view.seat view.buffer) (opened view.eye) out.whole out.posted in
    let named : AllByRecursion (Contains (set_of view.eye.regions)) (regions_of p) =
    All-contains (λ (q : Part). AllByRecursion (Contains (set_of view.eye.regions)) (regions_of q)) view.parts p (All-from_recursion _ view.parts (view_names view out.is_view)) there in
    subst (λ n. TellsRowsOf value.room.image n (p ∷ []) rows) out.region_len
    (tells_alike (set_of view.eye.regions) view.eye.told value.room.image view.region_len (p ∷ []) rows (seen_back (set_of view.eye.regions) value.room.image view.eye.told shows) (named, tt) tells)

-- what is the same in some regions is so in those among them
pub seen_within : (regions some : List ℕ) (a b : Option Image) → AllByRecursion (Contains regions) some → SameSeen regions a b → SameSeen some a b
seen_within regions some None None named same = tt
seen_within regions some None (Some b) named same = absurd same
seen_within regions some (Some a) None named same = absurd same
seen_within regions some (Some a) (Some b) named same = record {
  as_many = same.as_many;
  same = all_map (Contains regions) (λ r. region_of b r ≡ region_of a r)
      (λ r there. All-contains (λ n. region_of b n ≡ region_of a n) regions r (All-from_recursion (λ n. region_of b n ≡ region_of a n) regions same.same) there) some named;
}

-- the eye of a view that is out gives of each of its parts what a read of the disk does
pub seen_by : (value : RoomValue) (view : ViewValue) (p : Part) → IsOut value view → Contains view.parts p → SameSeen (regions_of p) value.room.image view.eye.told
seen_by value view p out there =
    seen_within (set_of view.eye.regions) (regions_of p) value.room.image view.eye.told
    (All-contains (λ (q : Part). AllByRecursion (Contains (set_of view.eye.regions)) (regions_of q)) view.parts p (All-from_recursion _ view.parts (view_names view out.is_view)) there)
    (board_shows value (buffer_at view.seat view.buffer) (opened view.eye) out.whole out.posted)

-- ---- where the disk gives the same

pub tells_itself : (value : RoomValue) → TellsStill value value
tells_itself value p rows there still tells = tells

pub tells_same : (old new : RoomValue) → new.room.image ≡ old.room.image → new.room.region_len ≡ old.room.region_len → TellsStill old new
tells_same old new image len p rows there still tells =
    subst (λ told. TellsRowsOf told new.room.region_len (p ∷ []) rows) (sym image) (subst (λ n. TellsRowsOf old.room.image n (p ∷ []) rows) (sym len) tells)

-- ---- where gates of retired parts alone are another

module _ (value : RoomValue) (whole : IsWhole value) where
  abbrev live : List ℕ
  live = all_regions value.room.parts

  live_apart : AreApart value.disk.regions (all_regions value.room.parts ++ all_regions value.room.retired)
  live_apart =
      subst (AreApart value.disk.regions) (regions_together value.room.parts value.room.retired)
      (apart_back value.disk.regions value.room.lost (all_regions (value.room.parts ++ value.room.retired))
      (apart_back value.disk.regions (job_left value.room) (value.room.lost ++ all_regions (value.room.parts ++ value.room.retired))
      (apart_back value.disk.regions (option_to_list value.target) (job_left value.room ++ (value.room.lost ++ all_regions (value.room.parts ++ value.room.retired))) whole.apart)))

  live_unheld : (r : ℕ) → list_any (nat_eq r) live ≡ true → list_any (nat_eq r) (unheld value.room) ≡ false
  live_unheld r there =
      false_from_ne_true (list_any (nat_eq r) (unheld value.room)) (λ e.
      let leads = all_at (λ n. list_any (λ (p : Part). p.region == n) value.room.retired ≡ true) r (unheld value.room) (unheld_lead value.room.board value.room.retired) e in
      true≢false (sym (lead_in r value.room.retired leads) ∙ other_list value.disk.regions live (all_regions value.room.retired) r live_apart there))

  pub live_shown : (old new : Option Told) → BothTold (λ a b. DiffersAtGates (unheld value.room) a.bytes b.bytes) old new
      → SameSeen live (option_map (λ (t : Told). t.bytes) old) (option_map (λ (t : Told). t.bytes) new)
  live_shown None None differs = tt
  live_shown None (Some b) differs = absurd differs
  live_shown (Some a) None differs = absurd differs
  live_shown (Some a) (Some b) differs = record {
    as_many = differs.as_many;
    same = all_map (λ r. list_any (nat_eq r) live ≡ true) (λ r. region_of b.bytes r ≡ region_of a.bytes r) (λ r there. differs.others r (live_unheld r there)) live (each_there live);
  }

  pub erased_tells : (new : RoomValue) → new.room.image ≡ option_map (λ (t : Told). t.bytes) new.disk.told → new.room.region_len ≡ value.room.region_len → ReadsButGates (unheld value.room) value.disk new.disk → TellsStill value new
  erased_tells new image len read p rows there still tells =
      subst (λ n. TellsRowsOf new.room.image n (p ∷ []) rows) (sym len)
      (tells_alike live value.room.image new.room.image value.room.region_len (p ∷ []) rows
      (subst (λ told. SameSeen live told new.room.image) (sym (ap (λ (r : RoomState). r.image) whole.of_disk))
      (subst (λ told. SameSeen live (option_map (λ (t : Told). t.bytes) value.disk.told) told) (sym image) (live_shown value.disk.told new.disk.told read)))
      (All-contains (λ (q : Part). AllByRecursion (Contains live) (regions_of q)) value.room.parts p (All-from_recursion _ value.room.parts (all_parts value.room.parts)) there, tt) tells)

-- ---- the merged part

front : (p : Part) (parts : List Part) → Contains (p ∷ parts) p
front p parts = (0, omega arith, refl)

part_there : (before : List Part) (older newer : Part) (after : List Part) (p : Part) → Contains (replaced older.region p (before ++ older ∷ newer ∷ after)) p
unfolding replaced
part_there [] older newer after p = by (older.region == older.region) (eq-eqb older.region older.region refl)
  where
    by : (b : Bool) → b ≡ true → Contains (cond b (p ∷ drop 1 (newer ∷ after)) (older ∷ replaced older.region p (newer ∷ after))) p
    by true e = front p (drop 1 (newer ∷ after))
    by false e = absurd (true≢false (sym e))
part_there (q ∷ before) older newer after p = by (q.region == older.region) (part_there before older newer after p)
  where
    by : (b : Bool) → Contains (replaced older.region p (before ++ older ∷ newer ∷ after)) p
        → Contains (cond b (p ∷ drop 1 (before ++ older ∷ newer ∷ after)) (q ∷ replaced older.region p (before ++ older ∷ newer ∷ after))) p
    by true rest = front p (drop 1 (before ++ older ∷ newer ∷ after))
    by false rest = Contains-append_right (q ∷ []) (replaced older.region p (before ++ older ∷ newer ∷ after)) p rest

-- the merged part stands in the chain
pub part_in : (old new : List Part) (t : MergesTwo old new) → Contains new t.part
part_in old new t =
    subst (λ ps. Contains ps t.part) (sym (t.is ∙ ap (replaced t.two.0.region t.part) t.stand.neighbours)) (part_there t.stand.before t.two.0 t.two.1 t.stand.after t.part)

-- where a job holds bytes, the disk tells them
pub held_image : (told : Option Image) (job : Job) (bytes : List ℕ) → held_for told job ≡ Some bytes → (image : Image) × (told ≡ Some image) × (held_by image job.target job.written job.header ≡ bytes)
held_image None job bytes is = absurd cc
held_image (Some image) job bytes is = (image, refl, (let e : ◌≡◌ {A = Option (List ℕ)} (Some (held_by image job.target job.written job.header)) (Some bytes) = is in cc))

-- the rows of a part may stand in a part of one region, and of several
abbrev FitsBoth : List Row → Type 0
FitsBoth rows = AllByRecursion (FitsRow mark.Two) rows × AllByRecursion (FitsRow mark.Three) rows

pub both_fit : (region_len : ℕ) (image : Image) (p : Part) (rows : List Row) → AreRowsOf region_len image (p ∷ []) rows → FitsBoth rows
unfolding AreRowsOf
both_fit region_len image p rows is =
    let m : Mark = is.3.header.mark in
    let same : is.0 ≡ rows = sym (is.2 ∙ ap (λ xs. is.0 ++ xs) is.4 ∙ append-nil is.0) in (
      subst (AllByRecursion (FitsRow mark.Two)) same (all_map (FitsRow m) (FitsRow mark.Two) (λ row fits. (mark_fits m row fits).0) is.0 is.3.rows_fit),
      subst (AllByRecursion (FitsRow mark.Three)) same (all_map (FitsRow m) (FitsRow mark.Three) (λ row fits. (mark_fits m row fits).1) is.0 is.3.rows_fit),
    )

module _ (region_len : ℕ) (image : Image) (two : Part × Part) (measure : Measure) (regions : ℕ) (free : List ℕ) where
  abbrev job : Job
  job = job_for two measure regions free

  abbrev part : Part
  part = part_of job.target (header_for two measure regions free)

  -- rows in order that were measured, and whose body the job holds
  pub measured_rows : (rows : List Row) → FitsBoth rows → measure ≡ measure_of rows → measure.ordered ≡ true → HasHeader region_len image part.region part.header
      → held_by image job.target job.written job.header ≡ body_bytes rows → AreRowsOf region_len image (part ∷ []) rows
  unfolding AreRowsOf header_over
  measured_rows rows fit is ordered has held = (
    rows,
    [],
    sym (append-nil rows),
    record {
      header = part.header;
      has_header = has;
      of_range = refl;
      of_rows = (ap (λ (m : Measure). m.rows) is, ap (λ (m : Measure). m.nodes) is, ap (λ (m : Measure). m.area) is);
      rows_fit = by (regions == 1);
      ordered = sym (ap (λ (m : Measure). m.ordered) is) ∙ ordered;
      spelled = (
        drop job.written (body_in image part.region part.header),
        sym (take-append-drop job.written (body_in image part.region part.header)) ∙ ap (λ bytes. bytes ++ drop job.written (body_in image part.region part.header)) held,
      );
    },
    refl,
  )
    where
      by : (t : Bool) → AllByRecursion (FitsRow (cond t mark.Two mark.Three)) rows
      by true = fit.0
      by false = fit.1

module _ (region_len : ℕ) (image : Image) (two : Part × Part) (measure : Measure) (regions : ℕ) (free : List ℕ) (a b : List Row) where
  pub merged_rows : FitsBoth a → FitsBoth b → measure ≡ measure_of (merged a b) → measure.ordered ≡ true → HasHeader region_len image (part region_len image two measure regions free).region (part region_len image two measure regions free).header
      → held_by image (job region_len image two measure regions free).target (job region_len image two measure regions free).written (job region_len image two measure regions free).header ≡ body_bytes (merged a b)
      → AreRowsOf region_len image (part region_len image two measure regions free ∷ []) (merged a b)
  merged_rows fit_a fit_b is ordered has held =
      measured_rows region_len image two measure regions free (merged a b)
      (merged_fits mark.Two a b (all_append (FitsRow mark.Two) a b fit_a.0 fit_b.0), merged_fits mark.Three a b (all_append (FitsRow mark.Three) a b fit_a.1 fit_b.1)) is ordered has held
