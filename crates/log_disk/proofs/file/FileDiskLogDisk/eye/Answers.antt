use Rattle.std.proofs.Common.{refl, ap, ◌∙◌, ◌++◌, ◌∷◌, []}
use Rattle.log_disk.specs.Eyes.{numbers_to, eyes_in}
use Rattle.log_disk.proofs.file.FileDiskLogDisk.eye.Goals as goal

pub returns-clause-ok : goal.returns-clause-ok
returns-clause-ok g c = rw (← c.self.view_is) (record {
  is_new = rw (← c.in_ok-reserve.ensures.given) c.open-number.ensures.is_new;
  given = c.open-number.ensures.numbers ∙ ap (λ given. numbers_to given ++ c.open-number.result ∷ []) c.in_ok-reserve.ensures.given;
  fresh = (refl, refl);
  of_regions = (ap (λ v. v.items) c.of.ensures ∙ c.in_ok-named.ensures.items, refl);
  listed =
      c.open-number.ensures.eyes ∙ ap (λ eyes. eyes ++ record { number = c.open-number.result; regions = c.in_ok-named.named.items } ∷ []) c.in_ok-reserve.ensures.eyes
      ∙ ap (λ regions. eyes_in c.self.inside.eyes ++ record { number = c.open-number.result; regions = regions } ∷ []) c.in_ok-named.ensures.items;
  sees = tt;
  told = refl;
  others = (refl, refl, refl, refl, refl);
})
