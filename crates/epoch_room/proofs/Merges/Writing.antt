-- A room for whose merge bytes are written, behind the gates of the merge's regions.
use Rattle.std.proofs.Common.{◌≡◌, ℕ, ◌<◌, Bool, true, false, List, ◌++◌, length, Some, None, Ok, refl, sym, subst, ◌∙◌, arith}
use Rattle.std.specs.Prelude.{Option, IfSome, nat_eq, option_map}
use Rattle.std.specs.List.{AllByRecursion, list_any}
use Rattle.fine_model.specs.declared.Job.{Job}
use Rattle.fine_model.specs.declared.Row.{Row}
use Rattle.fine_model.specs.Becomes.{Becomes, IsStuck, StaysStuck}
use Rattle.fine_model.specs.Causes.{NoNeighboursFit}
use Rattle.fine_model.specs.Chain.{AreRowsOf, chain}
use Rattle.fine_model.specs.ChainLaws.{DiffersBehind}
use Rattle.fine_model.specs.History.{Commit}
use Rattle.fine_model.specs.Headline.{ShowsSome}
use Rattle.fine_model.specs.Room.{HoldsLive}
use Rattle.fine_model.specs.Regions.{Image, region_of}
use Rattle.log_disk.specs.Disk.{BothTold, CountsOwn, Disk, HasRisen, IsImageNow, IsSound, IsToldOf, SameBeside, Told, clock_of}
use Rattle.log_disk.specs.Moments.{ContinuesOn, IsLeft, LeavesOnly}
use Rattle.log_disk.proofs.Moments.{now_since}
use Rattle.log_disk.proofs.Steps.{both_weaker}
use Rattle.epoch_room.specs.Gate.{IsBehind, KeepsBeside, LeavesBehind, ReadsBehind}
use Rattle.epoch_room.specs.Meaning.{Keeps}
use Rattle.epoch_room.specs.Value.{Kept, value_of}
use Rattle.epoch_room.specs.Whole.{HoldsParts, IsWhole}
use Rattle.epoch_room.proofs.OpenEpochs.Behind.{as_told, some_behind}
use Rattle.epoch_room.proofs.OpenEpochs.BehindGates.{StaysSame, still_none_fit, torn_holds, torn_same}
use Rattle.epoch_room.proofs.Views.Boarding.{AreBeside}
use Rattle.epoch_room.proofs.Carrying.{still_inside, still_stands}
use Rattle.epoch_room.proofs.Moved.{becomes_open}

module _ (old new entry : Disk) (kept : Kept) (whole : IsWhole (value_of old entry kept)) (open_room : kept.is_shut ≡ false) (regions : List ℕ) (beside : AreBeside regions (kept.parts ++ kept.retired)) (below : AllByRecursion (λ r. r < old.regions) regions)
    (same : SameBeside old new) (sound : IsSound new) (time : ContinuesOn old new) (failed : Type 0) (counts : CountsOwn failed old new) (read : ReadsBehind regions old new) (leaves : LeavesBehind regions old new) where
  pub keeps_beside : KeepsBeside regions old new
  keeps_beside = both_weaker (λ a b. DiffersBehind regions a.bytes b.bytes) (λ a b. (r : ℕ) → list_any (nat_eq r) regions ≡ false → region_of b.bytes r ≡ region_of a.bytes r) (λ a b d. d.others) old.told new.told read

  abbrev Holds : Image → Type 0
  Holds image = HoldsParts old.region_len image kept.parts kept.retired

  record Run (a b : Told) : Type 0 where
    told : IsToldOf old a
    left : IsLeft Holds a
    torn : DiffersBehind regions a.bytes b.bytes
    crashes : LeavesOnly (IsBehind regions a) a b

  runs : BothTold Run old.told new.told
  runs = on' old.told new.told read leaves whole.sound.told (whole.told (whole.lost open_room))
    where
      on' : (y z : Option Told) → BothTold (λ a b. DiffersBehind regions a.bytes b.bytes) y z → BothTold (λ a b. LeavesOnly (IsBehind regions a) a b) y z → IfSome y (IsToldOf old) → IfSome y (IsLeft Holds) → BothTold Run y z
      on' None None p q s h = tt
      on' None (Some b) p q s h = absurd p
      on' (Some a) None p q s h = absurd p
      on' (Some a) (Some b) p q s h = record { told = s; left = h; torn = p; crashes = q }

  module _ (a b : Told) (r : Run a b) where
    long_now : (was : Image) → IsImageNow a was → length was ≡ old.regions
    long_now was now = now.regions ∙ sym r.told.image.regions ∙ r.told.regions

    alike : (was image : Image) → IsImageNow a was → DiffersBehind regions was image → StaysSame old.region_len was image
    alike was image now differs = torn_same old.region_len old.regions kept.parts kept.retired regions beside below was image (long_now was now) (r.left was now) differs

    holds_at : (image : Image) → IsBehind regions a image → Holds image
    holds_at image at = torn_holds old.region_len old.regions kept.parts kept.retired regions beside below at.was image (long_now at.was at.is_was) (r.left at.was at.is_was) at.differs

    shows_at : (first : List Row) (history : List Commit) (low high : ℕ) → ((was : Image) → IsImageNow a was → ShowsSome old.region_len first history low high was) → (image : Image) → IsBehind regions a image → ShowsSome old.region_len first history low high image
    shows_at first history low high shown image at =
        let s = shown at.was at.is_was in
        record { e = s.e; rows = s.rows; shows = (alike at.was image at.is_was at.differs).forth.shown s.e s.rows s.shows; from = s.from; to = s.to; agrees = s.agrees }

  -- each image that a crash may leave now holds the parts
  pub still_held : IfSome new.told (IsLeft (λ image. HoldsParts new.region_len image kept.parts kept.retired))
  still_held = some_behind (IsLeft (λ image. HoldsParts new.region_len image kept.parts kept.retired)) old.told new.told runs one
    where
      one : (a b : Told) → Run a b → IsLeft (λ image. HoldsParts new.region_len image kept.parts kept.retired) b
      one a b r image now = subst (λ n. HoldsParts n image kept.parts kept.retired) (sym same.region_len) (holds_at a b r image (r.crashes.each image (now_since (clock_of a) b image r.crashes.later now)))

  module _ (job : Option Job) (lost : List ℕ) (shut : Bool) where
    abbrev pub written_kept : Kept
    written_kept = record kept { job = job; lost = lost; is_shut = shut }

    live : (a b : Told) → Run a b → (log : List Row) → HoldsLive (value_of old entry kept).room a.bytes log → HoldsLive (record (value_of old entry kept).room { job = job; lost = lost; is_shut = shut }) b.bytes log
    live a b r log h = record { rows = h.rows; are_rows = (alike a b r a.bytes b.bytes r.told.image r.torn).forth.rows kept.parts h.rows h.are_rows; agrees = h.agrees; no_longer = h.no_longer }

    -- a room that can take nothing any more
    same_images : (y z : Option Told) → BothTold Run y z → (image : Image) → option_map (λ (t : Told). t.bytes) y ≡ Some image → (image' : Image) × (option_map (λ (t : Told). t.bytes) z ≡ Some image') × StaysSame old.region_len image image'
    same_images None None r image is = absurd (let e : ◌≡◌ {A = Option Image} None (Some image) = is in cc)
    same_images None (Some b) r image is = absurd r
    same_images (Some a) None r image is = absurd r
    same_images (Some a) (Some b) r image is =
        let e : a.bytes ≡ image = some_is a.bytes image is in
        (b.bytes, refl, subst (λ (i : Image). StaysSame old.region_len i b.bytes) e (alike a b r a.bytes b.bytes r.told.image r.torn))
      where
        some_is : (x y : Image) → ◌≡◌ {A = Option Image} (Some x) (Some y) → x ≡ y
        some_is x y e = cc

    still_stuck : IsStuck (value_of old entry kept).room → StaysStuck (value_of old entry kept).room (value_of new entry written_kept).room
    still_stuck s =
        let found = same_images old.told new.told runs s.image s.told in
        let forth = found.2.forth in
        record {
          stuck = record {
            image = found.0;
            told = found.1;
            is_chain = subst (λ n. chain n found.0 ≡ Ok kept.parts) (sym same.region_len) (forth.same_chain ∙ s.is_chain);
            rows = s.rows;
            are_rows = subst (λ n. AreRowsOf n found.0 kept.parts s.rows) (sym same.region_len) (forth.rows kept.parts s.rows s.are_rows);
            none_waits = s.none_waits;
            none_retired = s.none_retired;
            few_free = subst (λ free. length free < 2) (sym forth.same_regions) s.few_free;
            all_live = found.2.sealed ∙ s.all_live;
            no_merge = subst (λ n. NoNeighboursFit n found.0 kept.parts) (sym same.region_len) (still_none_fit old.region_len s.image found.0 kept.parts found.2 s.no_merge);
          };
          parts = refl;
          sealed = refl;
          places = refl;
        }

    module _ (risen : shut ≡ true → HasRisen old.own_faults new.own_faults × HasRisen old.faults new.faults) where
      becomes : Becomes (value_of old entry kept).room (value_of new entry written_kept).room
      becomes = becomes_open old new kept written_kept same counts.no_lower (as_told Run old.told new.told runs) open_room (omega arith) refl risen still_stuck

      pub written_keeps : Keeps (value_of old entry kept) (value_of new entry written_kept)
      written_keeps = record {
        stands = still_stands old new entry kept whole open_room same Run runs (IsBehind regions) (λ a b r. r.crashes) shows_at live;
        inside = still_inside old new entry kept whole open_room same Run runs (IsBehind regions) (λ a b r. r.crashes) shows_at;
        becomes = becomes;
        time = time;
      }
