use Rattle.std.proofs.Common.{rules, not}
use Rattle.std.specs.Prelude.{nat_eq}
use Rattle.std.specs.List.{list_any}
use Rattle.std.proofs.lemmas.Fn.{filter_same}
use Rattle.epoch_room.proofs.led_parts.keep_others.Goals as goal

pub returns-clause-others : goal.returns-clause-others
returns-clause-others c = filter_same _ (λ p. not (list_any (nat_eq p.region) c.args.leads.now)) _ (λ x b f h. search rules) _ _ c.retain.ensures.filtered
