-- A log that can take nothing any more, as it is told when no room could be made.
use Rattle.std.proofs.Common.{◌≡◌, ℕ, ◌<◌, List, length, Option, Some, None, refl, sym, ap, ◌∙◌, subst}
use Rattle.std.specs.Prelude.{option_map}
use Rattle.fine_model.specs.declared.Row.{Row}
use Rattle.fine_model.specs.declared.law.RoomState.{RoomState}
use Rattle.fine_model.specs.Becomes.{IsStuck}
use Rattle.fine_model.specs.Buckets.{Began}
use Rattle.fine_model.specs.History.{Commit}
use Rattle.log_disk.specs.Disk.{BothTold, Disk, Told}
use Rattle.log_disk.specs.Moments.{Continues}
use Rattle.epoch_room.specs.Meaning.{Stands, StandsTold, StandsWhere, origin_of}
use Rattle.epoch_room.specs.Value.{RoomValue}
use Rattle.epoch_room.proofs.Stuck.{stuck_law}
use Rattle.room_merges.specs.Near.{NoneFitNow}
use Rattle.fine_hall.specs.declared.law.Beginning.{Beginning}
use Rattle.fine_hall.specs.Passes.{seen}
use Rattle.hall_rooms.specs.Rooms.{room_log}
use Rattle.hall_rooms.specs.Making.{IsCleared, StuckThen}
use Rattle.hall_rooms.proofs.Left.{last_is}

-- ---- what the log told at entry

stands_told : (room : RoomValue) (before after : Told) (first : List Row) (e : ℕ) (history : List Commit) → room.entry.told ≡ Some before → room.disk.told ≡ Some after → Stands room first e history → StandsTold room.room before after first e history
unfolding Stands
stands_told room before after first e history a b s = subst (λ t. StandsWhere room.room (Some before) t first e history) b (subst (λ t. StandsWhere room.room t room.disk.told first e history) a s)

some_told : (o : Option Told) (image : List (List ℕ)) → option_map (λ (t : Told). t.bytes) o ≡ Some image → (t : Told) × (o ≡ Some t)
some_told None image e = absurd (let x : ◌≡◌ {A = Option (List (List ℕ))} None (Some image) = e in cc)
some_told (Some t) image e = (t, refl)

entry_told : (d : Disk) (image : List (List ℕ)) → (origin_of d).image ≡ Some image → (t : Told) × (d.told ≡ Some t)
unfolding origin_of
entry_told d image e = some_told d.told image e

-- ---- a room that was cleared, of which no neighbours fit

module _ (x : Beginning) (room : RoomValue) (log : room_log room ≡ x.log) (cleared : IsCleared room) (none_fit : NoneFitNow room) (few : length room.room.free < 2)
    (e : ℕ) (first : List Row) (began : Began x.log e first) (history : List Commit) (stands : Stands room first e history) where
  before : (t : Told) × (room.entry.told ≡ Some t)
  before = entry_told room.entry began.image (ap (λ o. o.image) log ∙ began.told)

  pub is_stuck : IsStuck room.room
  is_stuck = by room.disk.told refl
    where
      by : (t : Option Told) → room.disk.told ≡ t → IsStuck room.room
      by None is = absurd (subst (λ t. BothTold Continues (Some before.0) t) is (subst (λ t. BothTold Continues t room.disk.told) before.1 cleared.whole.entry.time))
      by (Some after) is =
          let s = stands_told room before.0 after first e history before.1 is stands in
          let image : room.room.image ≡ Some after.bytes = ap (λ (x : RoomState). x.image) cleared.whole.of_disk ∙ ap (option_map (λ (t : Told). t.bytes)) is in
          stuck_law room after.bytes s.stands.live.rows cleared.whole (record {
            none_lost = cleared.whole.lost cleared.not_shut;
            told = image;
            are_rows = s.stands.live.are_rows;
            none_waits = cleared.none_waits;
            none_retired = cleared.none_retired;
            no_job = cleared.no_job;
            few_free = few;
            no_merge = none_fit after.bytes image;
          })

-- ---- as it is told

pub stuck_then : StuckThen
stuck_then x from p p' t e first began =
    let o = t.makes.1 in
    subst IsStuck (sym (last_is x t.found.room None 0 t.room.room p p' t.turn.one)) (is_stuck x t.room t.log o.is.cleared o.is.tries.merges.2 t.makes.2 e first began (seen p') (t.stands e first began))
