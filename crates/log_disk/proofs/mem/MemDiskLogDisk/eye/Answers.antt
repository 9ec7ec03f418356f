use Rattle.std.proofs.Common.{refl, sym, ap, map, length, subst, ◌<◌, ◌∙◌, ◌++◌, ◌∷◌, []}
use Rattle.std.specs.Prelude.{All}
use Rattle.log_disk.specs.Region.{bytes_of}
use Rattle.log_disk.specs.Eyes.{numbers_to, eyes_in}
use Rattle.log_disk.proofs.InMemory.{eye_kept}
use Rattle.log_disk.proofs.mem.MemDiskLogDisk.eye.Goals as goal

pub invariant_of-result : goal.invariant_of-result
invariant_of-result c =
    eye_kept _ c.self.inside.present.regions.items (c.in_ok-bytes.ensures ∙ ap (map bytes_of) c.deref.ensures.value) c.self.invariant.lengths
    (subst (λ xs. All (λ r. r < length c.self.inside.present.regions.items) xs) (sym c.in_ok-named.ensures.items) (rw (← c.self.view_is) at c.requires.there))

pub returns-clause-ok : goal.returns-clause-ok
returns-clause-ok c = rw (← c.self.view_is) (record {
  is_new = rw (← c.in_ok-reserve.ensures.given) c.open-number.ensures.is_new;
  given = c.open-number.ensures.numbers ∙ ap (λ given. numbers_to given ++ c.open-number.result ∷ []) c.in_ok-reserve.ensures.given;
  fresh = (refl, refl);
  of_regions = (c.in_ok-named.ensures.items, refl);
  listed =
      c.open-number.ensures.eyes ∙ ap (λ eyes. eyes ++ record { number = c.open-number.result; regions = c.in_ok-named.named.items } ∷ []) c.in_ok-reserve.ensures.eyes
      ∙ ap (λ regions. eyes_in c.self.inside.eyes ++ record { number = c.open-number.result; regions = regions } ∷ []) c.in_ok-named.ensures.items;
  sees = c.in_ok-bytes.ensures ∙ ap (map bytes_of) c.deref.ensures.value;
  told = refl;
  others = (refl, refl, refl, refl, refl);
})
