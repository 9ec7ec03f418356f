-- What a room stands for goes over a call, where each image that a crash may leave then shows what an image before showed.
use Rattle.std.proofs.Common.{◌≡◌, ℕ, Bool, false, List, ◌++◌, map, ap, inl, inr}
use Rattle.std.specs.Prelude.{Option}
use Rattle.fine_model.specs.declared.Job.{Job}
use Rattle.fine_model.specs.declared.Part.{Part}
use Rattle.fine_model.specs.declared.Row.{Row}
use Rattle.fine_model.specs.Headline.{ShowsSome}
use Rattle.fine_model.specs.History.{Commit, all_rows, last_epoch, upto}
use Rattle.fine_model.specs.Regions.{Image}
use Rattle.fine_model.specs.Room.{HoldsLive}
use Rattle.log_disk.specs.Disk.{BothTold, Disk, IsImageNow, IsImageSince, SameBeside, Told, clock_of}
use Rattle.log_disk.specs.Moments.{Continues, LeavesOnly}
use Rattle.log_disk.proofs.Moments.{now_since}
use Rattle.log_disk.proofs.Times.{continued_later}
use Rattle.epoch_room.specs.Meaning.{GoesOnStanding, ShownInside, Stands, StandsTold, StandsWhere}
use Rattle.epoch_room.specs.Value.{Kept, value_of}
use Rattle.epoch_room.specs.Whole.{IsWhole}
use Rattle.epoch_room.proofs.OpenEpochs.Behind.{all_told}
use Rattle.epoch_room.proofs.OpenEpochs.Kept.{on_stands, still_counted}

module _ (old new entry : Disk) (kept : Kept) (whole : IsWhole (value_of old entry kept)) (open_room : kept.is_shut ≡ false) (same : SameBeside old new) (Run : Told → Told → Type 0) (runs : BothTold Run old.told new.told)
    (Left : Told → Image → Type 0) (leaves : (a b : Told) → Run a b → LeavesOnly (Left a) a b)
    (shows : (a b : Told) → Run a b → (first : List Row) (history : List Commit) (low high : ℕ) → ((was : Image) → IsImageNow a was → ShowsSome old.region_len first history low high was) → (image : Image) → Left a image → ShowsSome old.region_len first history low high image) where
  -- what all images showed that were left before, those show that are left since
  since : (before a b : Told) → Continues before a → Run a b → (first : List Row) (history : List Commit) (low high : ℕ) → ((image : Image) → IsImageSince (clock_of before) a image → ShowsSome old.region_len first history low high image)
      → (image : Image) → IsImageSince (clock_of before) b image → ShowsSome old.region_len first history low high image
  since before a b passed r first history low high all image now = elim ((leaves a b r).before (clock_of before) image (continued_later before a passed) now) as (λ _. ShowsSome old.region_len first history low high image) [
    | inl earlier ↦ all image earlier
    | inr at ↦ shows a b r first history low high (λ was is. all was (now_since (clock_of before) a was (continued_later before a passed) is)) image at
  ]

  -- the live parts hold their rows in the room as it is then
  module _ {parts retired : List Part} {free lost : List ℕ} {job : Option Job} {shut : Bool}
      (live : (a b : Told) → Run a b → (log : List Row) → HoldsLive (value_of old entry kept).room a.bytes log → HoldsLive (record (value_of old entry kept).room { parts = parts; retired = retired; free = free; lost = lost; job = job; is_shut = shut }) b.bytes log) where
    told : (before a b : Told) → Continues before a → Run a b → (first : List Row) (e : ℕ) (history : List Commit) → StandsTold (value_of old entry kept).room before a first e history
        → StandsTold (value_of new entry (record kept { parts = parts; retired = retired; free = free; lost = lost; job = job; is_shut = shut })).room before b first e history
    told before a b passed r first e history s =
        let left = leaves a b r in
        on_stands (record (value_of old entry kept).room { parts = parts; retired = retired; free = free; lost = lost; job = job; is_shut = shut }) new before b first e history same.region_len (ap (map (λ eye. (eye.number, eye.regions))) same.eyes) (record {
          stands = record {
            legal = s.stands.legal;
            counts = still_counted (value_of old entry kept).room e history s.stands.counts;
            live = live a b r (first ++ all_rows (upto history kept.sealed)) s.stands.live;
            images = record {
              every_image = since before a b passed r first history e (last_epoch e history) s.stands.images.every_image;
              now_sealed = λ image now. shows a b r first history kept.sealed (last_epoch e history) s.stands.images.now_sealed image (left.each image (now_since (clock_of a) b image left.later now));
            };
          };
          waiting = s.waiting;
          small = s.small;
          none_open = λ _. since before a b passed r first history e kept.sealed (s.none_open open_room);
        })

    pub still_stands : GoesOnStanding (value_of old entry kept) (value_of new entry (record kept { parts = parts; retired = retired; free = free; lost = lost; job = job; is_shut = shut }))
    unfolding Stands
    still_stands first e history h =
        all_told (λ x y z. StandsWhere (value_of old entry kept).room x y first e history → StandsWhere (value_of new entry (record kept { parts = parts; retired = retired; free = free; lost = lost; job = job; is_shut = shut })).room x z first e history)
        entry.told old.told new.told whole.entry.time runs (λ s. tt) (λ before a b p r s. told before a b p r first e history s) h

  pub still_inside : (first : List Row) (e : ℕ) (history : List Commit) → Stands (value_of old entry kept) first e history → ShownInside (value_of old entry kept) old.told new.told first e history
  unfolding Stands
  still_inside first e history h =
      all_told (λ x y z. StandsWhere (value_of old entry kept).room x y first e history → ShownInside (value_of old entry kept) y z first e history) entry.told old.told new.told whole.entry.time runs (λ s. tt)
      (λ before a b p r s image now. shows a b r first history kept.sealed (last_epoch e history) s.stands.images.now_sealed image ((leaves a b r).each image now)) h
