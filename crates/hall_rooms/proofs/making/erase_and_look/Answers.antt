-- What no view names is erased.
use Rattle.std.proofs.Common.{sym, ap, ◌∙◌}
use Rattle.std.specs.Prelude.{is_some, not}
use Rattle.hall_rooms.proofs.Clearing.{not_retired, some_retired}
use Rattle.hall_rooms.proofs.making.erase_and_look.Goals as goal

pub returns-in-Ok : goal.returns-in-Ok
returns-in-Ok g c =
    let room = c.erase_unheld.new.room.room in
    let looks = ap (λ o. is_some o) (sym c.retired.ensures.lowest) in (
      c.in-Ok._erased,
      c.in-Ok.ensures,
      (λ done. not_retired room (looks ∙ (c.is_none.ensures ∙ ap not done)), λ more. some_retired room (looks ∙ (c.is_none.ensures ∙ ap not more))),
    )
