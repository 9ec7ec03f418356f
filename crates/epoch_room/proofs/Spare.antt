-- A room with another merge out, and other regions free; its disk was not called.
use Rattle.std.proofs.Common.{◌≡◌, ℕ, List, Some, None, refl, arith}
use Rattle.std.specs.Prelude.{Option, IfSome}
use Rattle.fine_model.specs.declared.Job.{Job}
use Rattle.fine_model.specs.declared.Row.{Row}
use Rattle.fine_model.specs.Becomes.{Becomes, IsStuck}
use Rattle.fine_model.specs.History.{Commit}
use Rattle.log_disk.specs.Disk.{Told}
use Rattle.log_disk.proofs.Times.{continues_none}
use Rattle.epoch_room.specs.Meaning.{Keeps, Stands, StandsTold, StandsWhere}
use Rattle.epoch_room.specs.MergeSteps.{with_job}
use Rattle.epoch_room.specs.Value.{RoomValue, regions_outside, taken}
use Rattle.epoch_room.specs.Whole.{AreApart, IsJob, IsWhole}
use Rattle.epoch_room.proofs.OpenEpochs.Behind.{inside_none}
use Rattle.epoch_room.proofs.Moved.{becomes_still, epoch_stays}

module _ (value : RoomValue) (whole : IsWhole value) (job : Option Job) (free : List ℕ) where
  spare_told : (before told : Told) (first : List Row) (e : ℕ) (history : List Commit) → StandsTold value.room before told first e history → StandsTold (with_job value job free).room before told first e history
  spare_told before told first e history s = record {
    stands = record {
      legal = s.stands.legal;
      counts = record { places = s.stands.counts.places; epochs = s.stands.counts.epochs; sealed = s.stands.counts.sealed; open_epoch = s.stands.counts.open_epoch; eyes = s.stands.counts.eyes };
      live = record { rows = s.stands.live.rows; are_rows = s.stands.live.are_rows; agrees = s.stands.live.agrees; no_longer = s.stands.live.no_longer };
      images = s.stands.images;
    };
    waiting = s.waiting;
    small = s.small;
    none_open = s.none_open;
  }

  spare_stands : (first : List Row) (e : ℕ) (history : List Commit) → Stands value first e history → Stands (with_job value job free) first e history
  unfolding Stands
  spare_stands first e history s = on' value.entry.told value.disk.told s
    where
      on' : (x y : Option Told) → StandsWhere value.room x y first e history → StandsWhere (with_job value job free).room x y first e history
      on' None None s = tt
      on' None (Some b) s = tt
      on' (Some a) None s = tt
      on' (Some a) (Some b) s = spare_told a b first e history s

  -- what makes a room stuck is said of its image and of the parts in it
  spare_stuck : IsStuck value.room → IsStuck (with_job value job free).room
  spare_stuck s = record { image = s.image; told = s.told; is_chain = s.is_chain; rows = s.rows; are_rows = s.are_rows; none_waits = s.none_waits; none_retired = s.none_retired; few_free = s.few_free; all_live = s.all_live; no_merge = s.no_merge }

  spare_becomes : Becomes value.room (with_job value job free).room
  spare_becomes =
      becomes_still value.room (with_job value job free).room (omega arith) (omega arith) (λ h. record { shut = h; image = refl; parts = refl; sealed = refl; places = refl })
      (λ s. record { stuck = spare_stuck s; parts = refl; sealed = refl; places = refl })

  pub spare_keeps : Keeps value (with_job value job free)
  unfolding Stands
  spare_keeps = record {
    stands = spare_stands;
    inside = λ first e history s. inside_none value first e history whole.entry.time s;
    becomes = spare_becomes;
    time = continues_none value.disk;
  }

  pub spare_whole : AreApart value.disk.regions (taken (with_job value job free).room value.target) → free ≡ regions_outside value.disk.regions (taken (with_job value job free).room value.target)
      → IfSome job (IsJob (with_job value job free).room) → IsWhole (with_job value job free)
  spare_whole apart is is_job = record {
    geometry = whole.geometry;
    sound = whole.sound;
    of_disk = λ i. record (whole.of_disk i) { job = job; free = free };
    in_chain = whole.in_chain;
    ends = whole.ends;
    lie = whole.lie;
    apart = apart;
    free = is;
    rising = whole.rising;
    board = record { seats = whole.board.seats; eyes = whole.board.eyes; once = whole.board.once; given = whole.board.given; of_parts = whole.board.of_parts; shows = whole.board.shows };
    epoch = epoch_stays value (with_job value job free) whole.epoch refl whole.epoch.none whole.epoch.some whole.epoch.epoch;
    job = is_job;
    entry = record { regions = whole.entry.regions; region_len = whole.entry.region_len; time = whole.entry.time; no_lower = whole.entry.no_lower; failed = whole.entry.failed };
    lost = whole.lost;
    unsynced = whole.unsynced;
    told = whole.told;
  }
