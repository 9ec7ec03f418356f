-- What a room stands for when it is made, and with an entry more.
use Rattle.std.proofs.Common.{◌≡◌, ℕ, ◌+◌, ◌≤◌, ◌==◌, true, false, IsTrue, List, [], ◌∷◌, ◌++◌, length, Some, None, Ok, refl, sym, ap, subst, ◌∙◌, inl, inr, arith, append-nil, length-append}
use Rattle.std.specs.Prelude.{Option, Result, filter, map, IfSome, IsPermutation, Contains}
use Rattle.std.proofs.lemmas.List.Sorted.{IsPermutation-refl}
use Rattle.std.specs.List.{AllByRecursion}
use Rattle.fine_model.specs.declared.Damage.{Damage}
use Rattle.fine_model.specs.declared.Part.{Part}
use Rattle.fine_model.specs.declared.Row.{Row}
use Rattle.fine_model.specs.RowBytes.{FitsRow, rows_len}
use Rattle.fine_model.specs.Nodes.{Agrees}
use Rattle.fine_model.specs.Trees.{IsSound}
use Rattle.fine_model.specs.Regions.{Image}
use Rattle.fine_model.specs.Chain.{AreRowsOf, Shows, chain_end}
use Rattle.fine_model.specs.History.{Commit, IsLegal, all_rows, upto, last_epoch}
use Rattle.fine_model.specs.Headline.{ShowsSome}
use Rattle.fine_model.specs.Boards.{named}
use Rattle.fine_model.specs.Laws.{is_small}
use Rattle.fine_model.specs.Room.{SameMembers}
use Rattle.fine_model.proofs.Trees.NodeLaws.{Agrees-refl}
use Rattle.fine_model.proofs.Ordered.Order.{all_map}
use Rattle.fine_model.proofs.Ordered.Sets.{all_append}
use Rattle.fine_model.proofs.Histories.Stated.{small_law}
use Rattle.fine_model.proofs.Chain.Unique.{Shows-unique}
use Rattle.log_disk.specs.Disk.{Disk, Told, IsSound as IsSoundDisk, IsToldOf, IsImageNow, IsImageSince, BothTold, clock_of}
use Rattle.log_disk.specs.Moments.{Continues, IsLeft}
use Rattle.log_disk.proofs.Times.{continued_later, continues_none}
use Rattle.log_disk.proofs.Moments.{only_now, now_since, synced_now}
use Rattle.epoch_room.specs.Value.{RoomValue, made}
use Rattle.epoch_room.specs.Whole.{IsIdle, AreParts, HoldsParts, IsWhole, NamesWhole}
use Rattle.log_partition.proofs.Costs.{cost_none}
use Rattle.epoch_room.proofs.OpenEpochs.Ending.{no_parts_unsynced}
use Rattle.fine_model.specs.Trees.{is_distinct}
use Rattle.epoch_room.specs.Steps.{appended}
use Rattle.epoch_room.specs.Meaning.{StandsTold, StandsWhere, Stands, StandsAtFirst, StandsForMore}
use Rattle.fine_model.proofs.Histories.Epochs.{upto_push, last_push, follow_push, sealed_push, open_push, rows_push}

-- the rows of partitions are small
small_rows : (region_len : ℕ) (image : Image) (parts : List Part) (rows : List Row) → AreRowsOf region_len image parts rows → AllByRecursion (λ row. IsTrue (is_small row.rec)) rows
unfolding AreRowsOf
small_rows region_len image [] rows none = subst (AllByRecursion (λ row. IsTrue (is_small row.rec))) (sym none) tt
small_rows region_len image (p ∷ parts) rows is =
    subst (AllByRecursion (λ row. IsTrue (is_small row.rec))) (sym is.2)
    (all_append (λ row. IsTrue (is_small row.rec)) is.0 is.1 (all_map (FitsRow is.3.header.mark) (λ row. IsTrue (is_small row.rec)) (λ row fits. small_law is.3.header.mark row fits) is.0 is.3.rows_fit) (small_rows region_len image parts is.1 is.4))

same_parts : (a b : List Part) → ◌≡◌ {A = Result (List Part) Damage} (Ok a) (Ok b) → a ≡ b
same_parts a b e = cc

pub nothing_more : (rows : List Row) (n : ℕ) → rows ++ all_rows (upto [] n) ≡ rows
unfolding upto
nothing_more rows n = append-nil rows

pub same_log : (rows : List Row) (n : ℕ) → Agrees rows (rows ++ all_rows (upto [] n))
same_log rows n = subst (Agrees rows) (sym (nothing_more rows n)) (Agrees-refl rows)

module _ (disk : Disk) (told : Told) (sound : IsToldOf disk told) (nothing : disk.unsynced ≡ []) (no_eyes : disk.eyes ≡ []) (live retired : List Part) (holds : HoldsParts disk.region_len told.bytes live retired) where
  -- where nothing is unsynced, a crash leaves what a read gives
  still : (image : Image) → IsImageSince (clock_of told) told image → image ≡ told.bytes
  still image since = synced_now disk told told image sound (inl (nothing, refl)) (only_now told image since)

  first_stands : (e : ℕ) (rows : List Row) → Shows disk.region_len told.bytes e rows → StandsTold (made disk live retired).room told told rows e []
  first_stands e rows shows =
      let parts : shows.parts ≡ live = same_parts shows.parts live (sym shows.is_chain ∙ holds.is_chain) in
      let shown : (image : Image) → IsImageSince (clock_of told) told image → ShowsSome disk.region_len rows [] e e image = λ image since.
      record { e = e; rows = rows; shows = subst (λ (i : Image). Shows disk.region_len i e rows) (sym (still image since)) shows; from = omega arith; to = omega arith; agrees = same_log rows e } in
      let end : e ≡ chain_end live = shows.ends ∙ ap chain_end parts in
      record {
        stands = record {
          legal = inl refl;
          counts = record { places = refl; epochs = tt; sealed = sym end; open_epoch = refl; eyes = subst (λ eyes. SameMembers (map named (map (λ eye. (eye.number, eye.regions)) eyes)) []) (sym no_eyes) (λ x. (λ h. h, λ h. h)) };
          live = record {
            rows = rows;
            are_rows = subst (λ ps. AreRowsOf disk.region_len told.bytes ps rows) parts shows.are_rows;
            agrees = same_log rows (chain_end live);
            no_longer = omega (arith, ap rows_len (nothing_more rows (chain_end live)));
          };
          images = record { every_image = shown; now_sealed = λ image now. subst (λ n. ShowsSome disk.region_len rows [] n e image) end (shown image (now_since (clock_of told) told image (omega arith) now)) };
        };
        waiting = refl;
        small = record { each = small_rows disk.region_len told.bytes shows.parts rows shows.are_rows };
        none_open = λ open_room image since. subst (λ n. ShowsSome disk.region_len rows [] e n image) end (shown image since);
      }

-- the room as it is made
pub made_whole : (disk : Disk) (live retired : List Part) → IsIdle disk → AreParts disk live retired → IsSoundDisk disk → IsWhole (made disk live retired)
unfolding is_distinct
made_whole disk live retired idle parts sound = record {
  geometry = idle.geometry;
  sound = sound;
  of_disk = refl;
  in_chain = parts.in_chain;
  ends = refl;
  lie = parts.lie;
  apart = parts.apart;
  free = refl;
  rising = parts.rising;
  board = record {
    seats = (1, omega arith, omega arith, refl);
    eyes = subst (λ eyes. IsPermutation (map named (map (λ eye. (eye.number, eye.regions)) eyes)) []) (sym idle.no_eyes) (IsPermutation-refl []);
    once = subst (λ eyes. IsTrue (is_distinct (map (λ (eye : ℕ × List ℕ). eye.0) (map (λ eye. (eye.number, eye.regions)) eyes)))) (sym idle.no_eyes) none_twice;
    given = subst (λ eyes. AllByRecursion (λ (eye : ℕ × List ℕ). Contains disk.given eye.0) (map (λ eye. (eye.number, eye.regions)) eyes)) (sym idle.no_eyes) tt;
    of_parts = subst (λ eyes. AllByRecursion (NamesWhole (live ++ retired)) (map (λ eye. (eye.number, eye.regions)) eyes)) (sym idle.no_eyes) tt;
    shows = tt;
  };
  epoch = record {
    none = λ h. (refl, refl, refl);
    some = λ l h. absurd (omega (arith, h));
    fits = tt;
    costs = omega (arith, cost_none);
    within = omega (arith, idle.geometry.len_low);
    entries = omega arith;
    places = omega arith;
    epoch = λ h. absurd (omega (arith, h));
  };
  job = tt;
  entry = record { regions = refl; region_len = refl; time = continues_none disk; no_lower = (omega arith, omega arith); failed = λ h. absurd (let e : false ≡ true = h in cc) };
  lost = λ h. refl;
  unsynced = λ l. no_parts_unsynced disk (live ++ retired) idle.synced;
  told = λ l. held disk.told sound.told parts.told;
}
  where
    none_twice : IsTrue (is_distinct [])
    none_twice = refl

    held : (told : Option Told) → IfSome told (IsToldOf disk) → IfSome told (λ t. HoldsParts disk.region_len t.bytes live retired) → IfSome told (IsLeft (λ image. HoldsParts disk.region_len image live retired))
    held None s h = tt
    held (Some t) s h = λ image now. subst (λ i. HoldsParts disk.region_len i live retired) (sym (synced_now disk t t image s (inl (idle.synced, refl)) now)) h

pub made_stands : (disk : Disk) (live retired : List Part) (value : RoomValue) → value ≡ made disk live retired → IsIdle disk → AreParts disk live retired → IsSoundDisk disk → StandsAtFirst value disk.told
unfolding Stands
made_stands disk live retired value is idle parts sound = subst (λ (v : RoomValue). StandsAtFirst v disk.told) (sym is) (at disk.told refl sound.told parts.told)
  where
    at : (told : Option Told) → disk.told ≡ told → IfSome told (IsToldOf disk) → IfSome told (λ t. HoldsParts disk.region_len t.bytes live retired) → StandsAtFirst (made disk live retired) told
    at None e s h = tt
    at (Some told) e s h = λ n rows shows. subst (λ (t : Option Told). StandsWhere (made disk live retired).room t t rows n []) (sym e) (first_stands disk told s idle.synced idle.no_eyes live retired h n rows shows)

-- ---- an entry more

module _ (value : RoomValue) (rows : List Row) (before told : Told) (first : List Row) (e : ℕ) (history : List Commit) (c : Commit) (open_room : value.room.is_shut ≡ false) (passed : clock_of before ≤ clock_of told)
    (of_rows : c.entry.rows ≡ rows) (of_epoch : c.epoch ≡ value.room.sealed + 1) (sound : IsSound first) (legal : IsLegal first (history ++ c ∷ [])) (old : StandsTold value.room before told first e history) where
  last_is : last_epoch e (history ++ c ∷ []) ≡ value.room.sealed + 1
  last_is = last_push e history c ∙ of_epoch

  -- no image shows the open epoch, so its commits change nothing of what is shown
  shown : (image : Image) → IsImageSince (clock_of before) told image → ShowsSome value.room.region_len first (history ++ c ∷ []) e value.room.sealed image
  shown image since =
      let some = old.none_open open_room image since in
      record {
        e = some.e;
        rows = some.rows;
        shows = some.shows;
        from = some.from;
        to = some.to;
        agrees = subst (λ h. Agrees some.rows (first ++ all_rows h)) (sym (upto_push history c some.e (omega (arith, some.to, of_epoch)))) some.agrees;
      }

  shown_now : (image : Image) → IsImageNow told image → ShowsSome value.room.region_len first (history ++ c ∷ []) value.room.sealed value.room.sealed image
  shown_now image now =
      let some = shown image (now_since (clock_of before) told image passed now) in
      let least = old.stands.images.now_sealed image now in
      let same : some.e ≡ least.e = (Shows-unique value.room.region_len image some.e least.e some.rows least.rows some.shows least.shows).0 in
      record { e = some.e; rows = some.rows; shows = some.shows; from = omega (arith, same, least.from); to = some.to; agrees = some.agrees }

  higher : (low : ℕ) (image : Image) → ShowsSome value.room.region_len first (history ++ c ∷ []) low value.room.sealed image → ShowsSome value.room.region_len first (history ++ c ∷ []) low (last_epoch e (history ++ c ∷ [])) image
  higher low image some = record { e = some.e; rows = some.rows; shows = some.shows; from = some.from; to = omega (arith, some.to, last_is); agrees = some.agrees }

  more_stands : StandsTold (appended value rows).room before told first e (history ++ c ∷ [])
  unfolding appended
  more_stands =
      let old_counts = old.stands.counts in
      let opened : filter (λ d. d.epoch == value.room.sealed + 1) (history ++ c ∷ []) ≡ filter (λ d. d.epoch == value.room.sealed + 1) history ++ c ∷ [] = open_push history c (value.room.sealed + 1) of_epoch in
      let kept : upto (history ++ c ∷ []) value.room.sealed ≡ upto history value.room.sealed = upto_push history c value.room.sealed (omega (arith, of_epoch)) in
      record {
        stands = record {
          legal = inr (sound, legal);
          counts = record {
            places = omega (arith, old_counts.places, length-append history (c ∷ []));
            epochs = follow_push e value.room.sealed history c old_counts.epochs old_counts.sealed of_epoch;
            sealed = sealed_push e value.room.sealed history c of_epoch;
            open_epoch =
                ap (λ rs. rs ++ rows) old_counts.open_epoch ∙ ap (λ rs. all_rows (filter (λ d. d.epoch == value.room.sealed + 1) history) ++ rs) (sym of_rows)
                ∙ sym (rows_push (filter (λ d. d.epoch == value.room.sealed + 1) history) c) ∙ ap all_rows (sym opened);
            eyes = old_counts.eyes;
          };
          live = record {
            rows = old.stands.live.rows;
            are_rows = old.stands.live.are_rows;
            agrees = subst (λ h. Agrees old.stands.live.rows (first ++ all_rows h)) (sym kept) old.stands.live.agrees;
            no_longer = subst (λ h. rows_len old.stands.live.rows ≤ rows_len (first ++ all_rows h)) (sym kept) old.stands.live.no_longer;
          };
          images = record { every_image = λ image since. higher e image (shown image since); now_sealed = λ image now. higher value.room.sealed image (shown_now image now) };
        };
        waiting = omega (arith, old.waiting, ap length opened, length-append (filter (λ d. d.epoch == value.room.sealed + 1) history) (c ∷ []));
        small = old.small;
        none_open = λ open_room' image since. shown image since;
      }

pub appended_stands : (value : RoomValue) (rows : List Row) → IsWhole value → value.room.is_shut ≡ false → StandsForMore value (appended value rows) rows
unfolding Stands appended
appended_stands value rows whole open_room first e history c of_rows of_epoch sound legal stands = on value.entry.told value.disk.told whole.entry.time stands
  where
    on : (a b : Option Told) → BothTold Continues a b → StandsWhere value.room a b first e history → StandsWhere (appended value rows).room a b first e (history ++ c ∷ [])
    on None None p s = tt
    on None (Some b) p s = tt
    on (Some a) None p s = tt
    on (Some a) (Some b) p s = more_stands value rows a b first e history c open_room (continued_later a b p) of_rows of_epoch sound legal s
