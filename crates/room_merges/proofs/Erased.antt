-- From merging through a view to the whole call: what is retired is erased, before and after.
use Rattle.std.proofs.Common.{◌≡◌, ℕ, Bool, true, false, Ok, Err, refl, sym, subst, ◌∙◌, inl, inr, arith, true≢false}
use Rattle.std.specs.Prelude.{Contains, Result}
use Rattle.fine_model.specs.declared.FetchFault.{FetchFault}
use Rattle.fine_model.specs.Merge.{merged}
use Rattle.epoch_room.specs.Value.{RoomValue}
use Rattle.epoch_room.specs.declared.answers.RoomFault.{RoomFault}
use Rattle.epoch_room.specs.declared.answers.RoomFault.TheVariants as room_fault
use Rattle.room_merges.specs.declared.fault.MergeFault.{MergeFault}
use Rattle.room_merges.specs.declared.fault.MergeFault.TheVariants as merge_fault
use Rattle.room_merges.specs.Live.{KeepsLive}
use Rattle.room_merges.specs.Near.{AllErased, ComesTo, Empties, IsReadRefused, IsShutNow, IsWell, MergesAndErases, MergesErased, MergesFirst, MergesNear, MergesThrough, MergesTwo, SameOrErased, SameOrFirst, StopsOr, TellsStill}
use Rattle.room_merges.proofs.Living.{live_then}
use Rattle.room_merges.proofs.Telling.{part_in}
use Rattle.room_merges.proofs.Through.{rest_then, two_from}

-- ---- the whole call

well_then : (a b c : RoomValue) → IsWell a b → IsWell b c → IsWell a c
well_then a b c first second = record {
  opened = first.opened;
  stays = second.stays;
  counts = record { faults = second.counts.faults ∙ first.counts.faults; own_faults = second.counts.own_faults ∙ first.counts.own_faults };
}

shut_then : (a b c : RoomValue) → IsWell a b → IsShutNow b c → IsShutNow a c
shut_then a b c first second =
    let same = first.counts.faults in
    let own_same = first.counts.own_faults in
    let rose = second.fails.faults in
    let own_rose = second.fails.own_faults in
    let low = second.fails.no_lower.0 in
    let own_low = second.fails.no_lower.1 in
    record {
      opened = first.opened;
      shut = second.shut;
      fails = record { faults = omega (arith, same, rose); own_faults = omega (arith, own_same, own_rose); no_lower = (omega (arith, same, low), omega (arith, own_same, own_low)) };
    }

refused_then : (a b c : RoomValue) (fault : FetchFault) → IsWell a b → IsReadRefused b c fault → IsReadRefused a c fault
refused_then a b c fault first second =
    let same = first.counts.faults in
    record {
      opened = first.opened;
      stays = second.stays;
      own_faults = second.own_faults ∙ first.counts.own_faults;
      rises = λ failed. (let rose = second.rises failed in omega (arith, rose, same));
      no_lower = (let low = second.no_lower in omega (arith, low, same));
      else_same = λ other. second.else_same other ∙ same;
      view = second.view;
      shown = second.shown;
      blames = second.blames;
    }

-- ---- from where nothing is retired

module _ (from : ℕ) (old mid : RoomValue) where
  pub erased_false : MergesThrough from old mid (Ok false) → MergesErased from old mid (Ok false)
  erased_false t = record { rest = t.rest; told = t.told; live = t.live; answers = t.answers }

  pub erased_fault : (fault : MergeFault) → MergesThrough from old mid (Err fault) → MergesErased from old mid (Err fault)
  erased_fault (merge_fault.Fetch fault) t = record { rest = t.rest; told = t.told; live = t.live; answers = t.answers }
  erased_fault (merge_fault.Room room_fault.NoMemory) t = record { rest = t.rest; told = t.told; live = t.live; answers = (t.answers.0, inl t.answers.1, inl t.answers.2) }
  erased_fault (merge_fault.Room room_fault.Disk) t = record { rest = t.rest; told = t.told; live = t.live; answers = (t.answers.0, inl t.answers.1, inl t.answers.2) }
  erased_fault (merge_fault.Room (room_fault.Shut epoch)) t = record { rest = t.rest; told = t.told; live = t.live; answers = t.answers }

module _ (from : ℕ) (old mid new : RoomValue) (merges : MergesThrough from old mid (Ok true)) where
  two_still : new.room.parts ≡ mid.room.parts → MergesTwo old.room.parts new.room.parts
  two_still same = two_from old.room.parts old.room.parts mid.room.parts new.room.parts refl same merges.answers.1.first.merged

  first_from' : new.room.parts ≡ mid.room.parts → TellsStill mid new → MergesFirst from old new
  unfolding two_from two_still
  first_from' same told =
      let f = merges.answers.1.first in
      let there = part_in old.room.parts mid.room.parts f.merged in
      record {
        merged = two_still same;
        view = f.view;
        shown = f.shown;
        at = f.at;
        first = f.first;
        before = f.before;
        fits = f.fits;
        holds = λ a b a_told b_told. told f.merged.part (merged a b) there (subst (λ ps. Contains ps f.merged.part) (sym same) there) (f.holds a b a_told b_told);
        tells = λ image is.
            let t = f.tells image is in
            record { rows = t.rows; told = told f.merged.part t.rows there (subst (λ ps. Contains ps f.merged.part) (sym same) there) t.told; each = t.each };
        of_chain = f.of_chain;
        measure = f.measure;
        read = f.read;
        ordered = f.ordered;
        regions = f.regions;
        taken = f.taken;
        placed = f.placed;
        done = f.done;
        free = f.free;
        retired = f.retired;
      }

  -- and the two were erased behind it, as far as that came
  and_erases : (result : Result (Unit {0}) MergeFault) → Empties mid new result → MergesAndErases from old new result
  unfolding first_from'
  and_erases result e = record { first = first_from' e.parts e.told; last = subst (λ v. AllErased v new result) (sym merges.answers.1.is_done) e.all }

  told_both : new.room.parts ≡ mid.room.parts → TellsStill mid new → TellsStill old new
  told_both same told p rows there still tells =
      let between = subst (λ ps. Contains ps p) same still in
      told p rows between still (merges.told p rows there between tells)

  live_both : new.room.parts ≡ mid.room.parts → KeepsLive mid new → KeepsLive old new
  live_both same live = live_then old mid new (λ p there still. subst (λ ps. Contains ps p) same still) merges.live live

  pub erased_true : (u : Unit {0}) → Empties mid new (Ok u) → MergesErased from old new (Ok true)
  erased_true u e = record { rest = rest_then old mid new merges.rest e.rest; told = told_both e.parts e.told; live = live_both e.parts e.live; answers = (well_then old mid new merges.answers.0 e.empties.0, and_erases (Ok u) e, e.empties.1) }

  pub erased_after : (fault : MergeFault) → Empties mid new (Err fault) → MergesErased from old new (Err fault)
  erased_after (merge_fault.Fetch fault) e = absurd e.empties
  erased_after (merge_fault.Room room_fault.NoMemory) e =
      record { rest = rest_then old mid new merges.rest e.rest; told = told_both e.parts e.told; live = live_both e.parts e.live; answers = (well_then old mid new merges.answers.0 e.empties, inr (first_from' e.parts e.told), inr (and_erases (Err (merge_fault.Room room_fault.NoMemory)) e)) }
  erased_after (merge_fault.Room room_fault.Disk) e =
      record { rest = rest_then old mid new merges.rest e.rest; told = told_both e.parts e.told; live = live_both e.parts e.live; answers = (shut_then old mid new merges.answers.0 e.empties, inr (first_from' e.parts e.told), inr (and_erases (Err (merge_fault.Room room_fault.Disk)) e)) }
  erased_after (merge_fault.Room (room_fault.Shut epoch)) e = absurd (true≢false (sym e.empties.0 ∙ merges.answers.0.stays))

-- ---- and what was retired before

pub near_refused : (from : ℕ) (old new : RoomValue) (fault : MergeFault) → Empties old new (Err fault) → MergesNear from old new (Err fault)
near_refused from old new (merge_fault.Fetch fault) e = absurd e.empties
near_refused from old new (merge_fault.Room room_fault.NoMemory) e = record { rest = e.rest; told = e.told; live = e.live; near = (e.empties, inl e.parts, inl e.all) }
near_refused from old new (merge_fault.Room room_fault.Disk) e = record { rest = e.rest; told = e.told; live = e.live; near = (e.empties, inl e.parts, inl e.all) }
near_refused from old new (merge_fault.Room (room_fault.Shut epoch)) e = record { rest = e.rest; told = e.told; live = e.live; near = e.empties }

module _ (from : ℕ) (old mid new : RoomValue) (u : Unit {0}) (first : Empties old mid (Ok u)) where
  same_or : SameOrFirst from mid new → SameOrErased from old new
  same_or (inl same) = inl (same ∙ first.parts)
  same_or (inr merges) = inr (two_from mid.room.parts old.room.parts new.room.parts new.room.parts first.parts refl merges.merged, record { erased = mid; erases = first; merges = merges })

  comes_to : (fault : RoomFault) → StopsOr from mid new fault → ComesTo from old new fault
  comes_to fault stops = inr (record { erased = mid; erases = first; stops = stops })

  told_either : TellsStill mid new → TellsStill old new
  told_either told p rows there still tells =
      let between = subst (λ ps. Contains ps p) (sym first.parts) there in
      told p rows between still (first.told p rows there between tells)

  live_either : KeepsLive mid new → KeepsLive old new
  live_either live = live_then old mid new (λ p there still. subst (λ ps. Contains ps p) (sym first.parts) there) first.live live

  pub near_then : (result : Result Bool MergeFault) → MergesErased from mid new result → MergesNear from old new result
  near_then (Ok true) e = record {
    rest = rest_then old mid new first.rest e.rest;
    told = told_either e.told;
    live = live_either e.live;
    near = (
      well_then old mid new first.empties.0 e.answers.0,
      two_from mid.room.parts old.room.parts new.room.parts new.room.parts first.parts refl e.answers.1.first.merged,
      e.answers.2,
      record { erased = mid; erases = first; merges = e.answers.1.first },
      record { erased = mid; erases = first; merges = e.answers.1 },
    );
  }
  near_then (Ok false) e = record {
    rest = rest_then old mid new first.rest e.rest;
    told = told_either e.told;
    live = live_either e.live;
    near = (well_then old mid new first.empties.0 e.answers.0, e.answers.1 ∙ first.parts, e.answers.2 ∙ first.empties.1, e.answers.3, e.answers.4);
  }
  near_then (Err (merge_fault.Fetch fault)) e = record {
    rest = rest_then old mid new first.rest e.rest;
    told = told_either e.told;
    live = live_either e.live;
    near = (refused_then old mid new fault first.empties.0 e.answers.0, e.answers.1 ∙ first.parts, e.answers.2 ∙ first.empties.1, e.answers.3);
  }
  near_then (Err (merge_fault.Room room_fault.NoMemory)) e = record { rest = rest_then old mid new first.rest e.rest; told = told_either e.told; live = live_either e.live; near = (well_then old mid new first.empties.0 e.answers.0, same_or e.answers.1, comes_to room_fault.NoMemory e.answers.2) }
  near_then (Err (merge_fault.Room room_fault.Disk)) e = record { rest = rest_then old mid new first.rest e.rest; told = told_either e.told; live = live_either e.live; near = (shut_then old mid new first.empties.0 e.answers.0, same_or e.answers.1, comes_to room_fault.Disk e.answers.2) }
  near_then (Err (merge_fault.Room (room_fault.Shut epoch))) e = absurd (true≢false (sym e.answers.0 ∙ first.empties.0.stays))
