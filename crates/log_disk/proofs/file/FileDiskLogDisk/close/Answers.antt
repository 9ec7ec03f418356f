use Rattle.std.proofs.Common.{◌≡◌, ◌<◌, Any, length, refl, sym, ap, subst, arith}
use Rattle.log_disk.specs.Disk.{OpenEye}
use Rattle.log_disk.specs.FileDisk.{DiskAtPath, EyeAtPath}
use Rattle.log_disk.specs.Eyes.{eyes_in, numbers_to}
use Rattle.log_disk.proofs.file.FileDiskLogDisk.close.Goals as goal

pub invariant_of-self : goal.invariant_of-self
invariant_of-self g c =
    let there : Any (λ (e : OpenEye). e.number ≡ c.eye.inside.number) (eyes_in c.self.inside.eyes) =
    subst (λ (disk : DiskAtPath). Any (λ (e : OpenEye). e.number ≡ c.eye.inside.number) disk.disk.eyes) (sym c.self.view_is)
    (subst (λ (eye : EyeAtPath). Any (λ (e : OpenEye). e.number ≡ eye.eye.number) c.args.self.now.disk.eyes) (sym c.eye.view_is) c.requires)
    in
    let less : length (eyes_in c.close.new.self) < length (eyes_in c.self.inside.eyes) = c.close.ensures.fewer there in (
      c.self.invariant.0,
      c.close.ensures.numbered,
      c.self.invariant.2,
      c.self.invariant.3,
      c.keep.ensures.at_path,
      c.keep.ensures.places (length (eyes_in c.close.new.self)) (omega (arith, less, c.self.invariant.5)),
    )

pub returns-clause-closes : goal.returns-clause-closes
returns-clause-closes g c =
    rw (← c.self.view_is) (rw (← c.eye.view_is) (record {
      listed = c.close.ensures.eyes;
      told = refl;
      others = (refl, refl, refl, c.add.ensures.own);
      given = ap numbers_to c.close.ensures.given;
      faults = c.add.ensures.all;
      no_lower = c.add.ensures.no_lower;
    }))
