use Rattle.std.proofs.Common.{◌≡◌, ◌<◌, [], ◌∷◌, ◌++◌, map, length, sym, ap, ◌∙◌, arith}
use Rattle.std.proofs.lemmas.List.{length-map, map_push, with_items_is}
use Rattle.std.proofs.lemmas.List.FromFn.{map-range_with_len_more}
use Rattle.std.specs.List.{range_with_len}
use Rattle.log_disk.specs.Disk.{Moment, region_of}
use Rattle.log_disk.specs.Crash.{crash_region}
use Rattle.log_disk.specs.MemDisk.{range_of}
use Rattle.log_disk.specs.Region.{bytes_of, synced_of}
use Rattle.log_disk.proofs.Crashes.{nothing_below, region_crashed, rest_more, all_crashed}
use Rattle.log_disk.proofs.Regions.{region_of-map, synced_if_none}
use Rattle.log_disk.proofs.mem.crash.crash_regions.Goals as goal

pub loop-region-init : goal.loop-region-init
loop-region-init c = record {
  rest = nothing_below _ c.args.picks.now;
  bytes = ap (map bytes_of) c.new-left.ensures.items;
  synced = ap (map synced_of) c.new-left.ensures.items ∙ sym (ap (map bytes_of) c.new-left.ensures.items);
}

pub loop-region-preserved : goal.loop-region-preserved
loop-region-preserved c =
    let rows = c.args.rows.now in
    let m : Moment = record { synced = map synced_of rows; unsynced = map range_of c.args.unsynced.now } in
    let picks = c.args.picks.now in
    let region = c.loop-region.region in
    let within : region < length rows = omega arith in
    let here : c.deref_mut.result.now ≡ region_of m.synced region =
    c.deref_mut.ensures.value ∙ c.in_ok-bytes.ensures.items ∙ c.left.ensures ∙ ap synced_of c.index-rows-region.is ∙ sym (region_of-map synced_of rows region c.index-rows-region.result within) in
    let new = c.pick_bytes-rest.new.bytes in
    let row = c.in_ok-of_bytes.field-0 in
    let long : length new ≡ c.in_ok-bytes.bytes.len = omega (arith, c.pick_bytes-rest.auto.bytes, c.deref_mut.ensures.len) in
    let done = region_crashed m picks region c.deref_mut.result.now new c.loop-region.rest.now here c.loop-region.invariant.rest c.pick_bytes-rest.auto.bytes c.pick_bytes-rest.ensures.bytes in
    let bytes : bytes_of row ≡ crash_region m picks region = c.in_ok-of_bytes.ensures.bytes ∙ with_items_is c.in_ok-bytes.bytes new long ∙ done in
    record {
      rest = rest_more m picks c.loop-region.rest.now _ c.deref_mut.result.now region here c.loop-region.invariant.rest c.pick_bytes-rest.ensures.rest;
      bytes =
          ap (map bytes_of) c.in_ok-push.ensures.items ∙ map_push bytes_of c.loop-region.left.items row ∙ ap (λ xs. xs ++ bytes_of row ∷ []) c.loop-region.invariant.bytes
          ∙ ap (λ x. map (crash_region m picks) (range_with_len 0 region) ++ x ∷ []) bytes ∙ sym (map-range_with_len_more (crash_region m picks) 0 region region (omega arith));
      synced =
          ap (map synced_of) c.in_ok-push.ensures.items ∙ map_push synced_of c.loop-region.left.items row ∙ ap (λ xs. xs ++ synced_of row ∷ []) c.loop-region.invariant.synced
          ∙ ap (λ x. map bytes_of c.loop-region.left.items ++ x ∷ []) (synced_if_none row c.in_ok-of_bytes.ensures.synced)
          ∙ sym (ap (map bytes_of) c.in_ok-push.ensures.items ∙ map_push bytes_of c.loop-region.left.items row);
    }

pub returns-clause-bytes : goal.returns-clause-bytes
returns-clause-bytes c =
    let m : Moment = record { synced = map synced_of c.args.rows.now; unsynced = map range_of c.args.unsynced.now } in
    let all : c.loop-region.region ≡ length c.args.rows.now = omega arith in
    all_crashed m c.args.picks.now _ c.loop-region.region (all ∙ sym (length-map c.args.rows.now synced_of)) c.loop-region.invariant.bytes
