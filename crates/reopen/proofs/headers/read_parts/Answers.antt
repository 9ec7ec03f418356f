-- Each region that is read adds its part, if it leads one.
use Rattle.std.proofs.Common.{◌≡◌, ◌∙◌, ℕ, Ok, subst, arith}
use Rattle.std.proofs.lemmas.Result.{err_from_is_err_and}
use Rattle.log_disk.specs.Disk.{Disk}
use Rattle.reopen.specs.Opening.{SeesHeader, IsBadHeader}
use Rattle.reopen.proofs.Seeing.{HasRead, nothing_read, header_read, fault_read, all_read, sound_regions}
use Rattle.reopen.proofs.headers.read_parts.Goals as goal

pub loop-region-init : goal.loop-region-init
loop-region-init g c = record { same = λ _. g.D.LogDisk.state c.args.disk.now; has_read = rw c.new-parts.ensures (nothing_read (g.D.LogDisk.state c.args.disk.now)) }

pub returns-in_err-header-clause-err : goal.returns-in_err-header-clause-err
returns-in_err-header-clause-err g c =
    let p = err_from_is_err_and c.from_residual.result c.from_residual.ensures.1 in
    let P : Disk → Type 0 = λ d. IsBadHeader d c.loop-region.region c.in_err-header.field-0.0 in
    rw (p.1, p.2)
    (fault_read (g.D.LogDisk.state c.args.disk.now) c.loop-region.region c.loop-region.parts c.in_err-header.field-0.0 (omega (arith, c.loop-region-test.true, c.regions-region-end.ensures.regions))
    (sound_regions (g.D.LogDisk.state c.args.disk.now) c.regions-region-end.ensures.sound) (subst P c.loop-region.invariant.same c.in_err-header.ensures.err) c.loop-region.invariant.has_read)

pub loop-region-preserved : goal.loop-region-preserved
loop-region-preserved g c =
    let P : Disk → Type 0 = λ d. SeesHeader d c.loop-region.region (Ok c.in_ok-header.header) in
    record {
      same = c.in_ok-header.ensures.same (λ e. cc) ∙ c.loop-region.invariant.same;
      has_read = rw c.in_ok-add_part.ensures
          (header_read (g.D.LogDisk.state c.args.disk.now) c.loop-region.region c.loop-region.parts c.in_ok-header.header (omega (arith, c.loop-region-test.true, c.regions-region-end.ensures.regions))
          (sound_regions (g.D.LogDisk.state c.args.disk.now) c.regions-region-end.ensures.sound) (subst P c.loop-region.invariant.same c.in_ok-header.ensures.ok) c.loop-region.invariant.has_read);
    }

pub returns-clause-ok : goal.returns-clause-ok
returns-clause-ok g c =
    let P : ℕ → Type 0 = λ n. HasRead (g.D.LogDisk.state c.args.disk.now) n c.loop-region.parts in
    let end : c.loop-region.region ≡ (g.D.LogDisk.state c.args.disk.now).regions = omega (arith, c.loop-region-test.false, c.loop-region.auto.region-end, c.regions-region-end.ensures.regions) in
    all_read (g.D.LogDisk.state c.args.disk.now) c.loop-region.parts (sound_regions (g.D.LogDisk.state c.args.disk.now) c.regions-region-end.ensures.sound) (subst P end c.loop-region.invariant.has_read)
