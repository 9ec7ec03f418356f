use Rattle.std.proofs.Common.{◌≢◌, ◌++◌, ◌∷◌, [], refl, sym, subst}
use Rattle.std.specs.Prelude.{Contains}
use Rattle.log_disk.proofs.Lists.{contains_last}
use Rattle.log_disk.proofs.Seeing.{opens_open, opens_kept, closes_kept, closable}
use Rattle.log_disk_tests.proofs.files.open_two.Goals as goal

pub close-requires : goal.close-requires
close-requires c = closable c.in_ok-first.first.eye (opens_kept c.in_ok-second.ensures.ok (opens_open c.in_ok-first.ensures.ok)) refl

pub close-requires-2 : goal.close-requires-2
close-requires-2 c = closable c.in_ok-second.second.eye (closes_kept c.close.ensures.closes apart (opens_open c.in_ok-second.ensures.ok)) refl
  where
    apart : c.in_ok-second.second.eye.number ≢ c.in_ok-first.first.eye.number
    apart same =
        c.in_ok-second.ensures.ok.is_new
        (subst (λ given. Contains given c.in_ok-second.second.eye.number) (sym c.in_ok-first.ensures.ok.given)
        (subst (Contains (c.args.disk.now.disk.given ++ c.in_ok-first.first.eye.number ∷ [])) (sym same) (contains_last c.args.disk.now.disk.given c.in_ok-first.first.eye.number)))
