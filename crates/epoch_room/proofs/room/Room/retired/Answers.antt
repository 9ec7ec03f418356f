use Rattle.std.proofs.Common.{◌≡◌, ◌==◌, ℕ, true, List, map, sym, subst}
use Rattle.std.specs.Prelude.{IfSome, Option, find, nat_le}
use Rattle.std.specs.List.{list_any}
use Rattle.fine_model.specs.declared.Part.{Part}
use Rattle.epoch_room.specs.Value.{RoomValue}
use Rattle.epoch_room.proofs.Erasures.AllErased.{lead_found}
use Rattle.epoch_room.proofs.room.Room.retired.Goals as goal

pub returns-clause-leads : goal.returns-clause-leads
returns-clause-leads g c =
    subst (λ (v : RoomValue). IfSome c.first_lead.result (λ region. list_any (λ p. p.region == region) v.room.retired ≡ true)) c.self.view_is
    (subst (λ (o : Option ℕ). IfSome o (λ region. list_any (λ p. p.region == region) c.self.inside.retired.items ≡ true))
    (sym (subst (λ (ps : List Part). c.first_lead.result ≡ find (nat_le c.args.from) (map (λ p. p.region) ps)) c.as_slice.ensures.value c.first_lead.ensures)) (lead_found c.args.from c.self.inside.retired.items))
