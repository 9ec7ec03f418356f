-- A new disk has no parts, and a room on it stands for what it shows.
use Rattle.std.proofs.Common.{◌≡◌, ℕ, List, [], Option, None, Some, refl, sym, ap, subst, ◌∙◌}
use Rattle.std.specs.Prelude.{option_map}
use Rattle.std.specs.List.{list_all}
use Rattle.fine_model.specs.Boards.{is_empty}
use Rattle.fine_model.specs.declared.Part.{Part}
use Rattle.fine_model.specs.Buckets.{Began}
use Rattle.fine_model.specs.Trees.{is_distinct}
use Rattle.fine_model.specs.Chain.{AreRowsOf, Shows}
use Rattle.log_disk.specs.Disk.{Disk, Told, zeros, told_anew, new_disk}
use Rattle.fine_model.proofs.Chain.EmptyLog.{no_chain, none_sound, zero_region}
use Rattle.epoch_room.specs.Meaning.{Stands, StandsAtFirst, origin_of}
use Rattle.epoch_room.specs.Value.{RoomValue, made}
use Rattle.epoch_room.specs.Whole.{AreParts}
use Rattle.hall_rooms.specs.Opening.{StandsAlone}
use Rattle.hall_accounts.specs.Halls.{IsNewRoom}

pub new_parts : (regions len : ℕ) → AreParts (new_disk regions len (Some (told_anew (zeros regions len)))) [] []
unfolding is_distinct
new_parts regions len = record {
  in_chain = record { follow = tt };
  apart = record { distinct = refl; below = tt };
  lie = tt;
  rising = tt;
  told = record { is_chain = no_chain len regions len; leads = λ r h. zero_region regions len r; headers = tt };
}

shows_none : (regions len : ℕ) → Shows len (zeros regions len) 0 []
unfolding AreRowsOf
shows_none regions len = record { parts = []; is_chain = no_chain len regions len; ends = refl; are_rows = refl }

began_none : (regions len : ℕ) → Began (origin_of (new_disk regions len (Some (told_anew (zeros regions len))))) 0 []
unfolding origin_of
began_none regions len = record { image = zeros regions len; told = refl; shows = shows_none regions len; sound = none_sound }

-- what an untouched log shows, where it is told
alone : (disk : Disk) (room : RoomValue) → room.entry ≡ disk → room.room.region_len ≡ disk.region_len → StandsAtFirst room disk.told → StandsAlone room
unfolding origin_of
alone disk room entry len at e first began = by disk.told refl at
  where
    image : option_map (λ (told : Told). told.bytes) disk.told ≡ Some began.image
    image = ap (λ (d : Disk). option_map (λ (told : Told). told.bytes) d.told) (sym entry) ∙ began.told

    shows : Shows room.room.region_len began.image e first
    shows = subst (λ n. Shows n began.image e first) (ap (λ (d : Disk). d.region_len) entry ∙ sym len) began.shows

    by : (told : Option Told) → disk.told ≡ told → StandsAtFirst room told → Stands room first e []
    by None is first_stands = let none = ap (option_map (λ (t : Told). t.bytes)) (sym is) ∙ image in absurd cc
    by (Some told) is first_stands =
        let some : ◌≡◌ {A = Option _} (Some told.bytes) (Some began.image) = ap (option_map (λ (t : Told). t.bytes)) (sym is) ∙ image in
        let same : began.image ≡ told.bytes = cc in
        first_stands e first (subst (λ i. Shows room.room.region_len i e first) same shows)

pub is_new : (regions len : ℕ) (disk : Disk) (parts retired : List Part) (room : RoomValue) → disk ≡ new_disk regions len (Some (told_anew (zeros regions len))) → room ≡ made disk parts retired → StandsAtFirst room disk.told → IsNewRoom room
is_new regions len disk parts retired room fresh is at = record {
  board = ap (λ (r : RoomValue). list_all is_empty r.room.board) is;
  job = ap (λ (r : RoomValue). r.room.job) is;
  places = ap (λ (r : RoomValue). r.room.places) is;
  waiting = ap (λ (r : RoomValue). r.room.waiting) is;
  stands = alone disk room (ap (λ (r : RoomValue). r.entry) is) (ap (λ (r : RoomValue). r.room.region_len) is) at;
  new = subst (λ d. Began (origin_of d) 0 []) (sym (ap (λ (r : RoomValue). r.entry) is ∙ fresh)) (began_none regions len);
}
