use Rattle.std.proofs.Common.{◌≡◌, ◌-◌, ◌++◌, ap, ◌∙◌, subst, sym, None, false, arith}
use Rattle.epoch_room.specs.Epoch.{Open, empty}
use Rattle.epoch_room.specs.Value.{value_of, regions_outside, all_regions}
use Rattle.epoch_room.specs.Whole.{IsWhole}
use Rattle.epoch_room.proofs.Standing.{made_stands, made_whole}
use Rattle.epoch_room.proofs.room.Room.make.Goals as goal

pub returns-clause-stands : goal.returns-clause-stands
returns-clause-stands g c =
    let disk = g.D.LogDisk.state c.args.disk in
    let epoch : c.in-Ok-new.epoch ≡ empty (disk.region_len - 41) = c.in-Ok-new.ensures ∙ ap (λ n. empty (n - 41)) c.region_len.ensures.region_len in
    let retired : c.reserve_exact.new.self.items ≡ c.args.retired = c.reserve_exact.ensures.items ∙ c.into_vec-retired.ensures in
    let free : c.free_regions-free.result ≡ regions_outside disk.regions (all_regions (c.args.parts ++ c.args.retired)) = c.free_regions-free.ensures ∙ (λ i. regions_outside (c.regions.ensures.regions i) (all_regions (c.as_slice.ensures i ++ (c.as_slice-2.ensures.value ∙ retired) i))) in
    made_stands disk c.args.parts c.args.retired _
    (λ i. value_of disk (g.D.LogDisk.state (c.of-entry.ensures i)) (record { parts = c.args.parts; retired = retired i; free = free i; lost = c.none.ensures i; target = None; board = c.in-Ok-new-2.ensures i; job = None; epoch = epoch i; sealed = c.last_epoch-sealed.ensures i; places = 0; is_shut = false }))
    c.requires.idle c.requires.parts c.regions.ensures.sound

pub invariant_of-result : goal.invariant_of-result
invariant_of-result g c =
    let disk = g.D.LogDisk.state c.args.disk in
    let epoch : c.in-Ok-new.epoch ≡ empty (disk.region_len - 41) = c.in-Ok-new.ensures ∙ ap (λ n. empty (n - 41)) c.region_len.ensures.region_len in
    let retired : c.reserve_exact.new.self.items ≡ c.args.retired = c.reserve_exact.ensures.items ∙ c.into_vec-retired.ensures in
    let free : c.free_regions-free.result ≡ regions_outside disk.regions (all_regions (c.args.parts ++ c.args.retired)) = c.free_regions-free.ensures ∙ (λ i. regions_outside (c.regions.ensures.regions i) (all_regions (c.as_slice.ensures i ++ (c.as_slice-2.ensures.value ∙ retired) i))) in
    let whole = made_whole disk c.args.parts c.args.retired c.requires.idle c.requires.parts c.regions.ensures.sound in (
      subst IsWhole (sym (λ i. value_of disk (g.D.LogDisk.state (c.of-entry.ensures i)) (record { parts = c.args.parts; retired = retired i; free = free i; lost = c.none.ensures i; target = None; board = c.in-Ok-new-2.ensures i; job = None; epoch = epoch i; sealed = c.last_epoch-sealed.ensures i; places = 0; is_shut = false }))) whole,
      omega (arith, ap (λ (o : Open). o.most) epoch, whole.geometry.len_low),
      omega (arith, c.in-Ok.ensures.ok),
    )
