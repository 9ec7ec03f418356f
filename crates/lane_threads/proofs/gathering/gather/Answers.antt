use Rattle.std.proofs.Common.{◌≡◌, ◌∙◌, List, [], ◌∷◌, ◌++◌, Option, ap, subst}
use Rattle.std.specs.Prelude.{MatchOption, ◌-◌, ◌+◌, option_to_list, take, vec_len}
use Rattle.lane_threads.specs.declared.worker.Part.{Part}
use Rattle.lane_threads.proofs.Gathered.{GathersAfter, apart_of, gathers_all, gathers_first, gathers_on, within_of}
use Rattle.lane_threads.proofs.gathering.gather.Goals as goal

pub loop-part-init : goal.loop-part-init
loop-part-init c = record { gathers = gathers_first c.args._script.now c.args.parts.items c.args.outcomes.now c.requires.none_run }

pub hand_over-requires-clause-apart : goal.hand_over-requires-clause-apart
hand_over-requires-clause-apart c =
    let split : c.loop-part.parts.items ≡ c.pop.new.self.items ++ c.in-Some.part ∷ [] = c.pop.ensures.items ∙ ap (λ (o : Option Part). c.pop.new.self.items ++ option_to_list o) c.in-Some.is in
    apart_of c.args._script.now c.args.parts.items c.pop.new.self.items c.in-Some.part c.loop-part.outcomes c.requires.parts
    (subst (λ (l : List Part). GathersAfter c.args._script.now c.args.parts.items l c.loop-part.outcomes) split c.loop-part.invariant.gathers)

pub hand_over-requires-clause-within : goal.hand_over-requires-clause-within
hand_over-requires-clause-within c =
    let split : c.loop-part.parts.items ≡ c.pop.new.self.items ++ c.in-Some.part ∷ [] = c.pop.ensures.items ∙ ap (λ (o : Option Part). c.pop.new.self.items ++ option_to_list o) c.in-Some.is in
    within_of c.args._script.now c.args.parts.items c.pop.new.self.items c.in-Some.part c.loop-part.outcomes c.requires.parts
    (subst (λ (l : List Part). GathersAfter c.args._script.now c.args.parts.items l c.loop-part.outcomes) split c.loop-part.invariant.gathers)

pub loop-part-preserved : goal.loop-part-preserved
loop-part-preserved c =
    let split : c.loop-part.parts.items ≡ c.pop.new.self.items ++ c.in-Some.part ∷ [] = c.pop.ensures.items ∙ ap (λ (o : Option Part). c.pop.new.self.items ++ option_to_list o) c.in-Some.is in
    record {
      gathers = gathers_on c.args._script.now c.args.parts.items c.pop.new.self.items c.in-Some.part c.loop-part.outcomes c.requires.parts
          (subst (λ (l : List Part). GathersAfter c.args._script.now c.args.parts.items l c.loop-part.outcomes) split c.loop-part.invariant.gathers) c.hand_over.new.outcomes c.hand_over.ensures;
    }

pub returns : goal.returns
returns c =
    let items = c.pop.ensures.items in
    let rest = c.pop.ensures.rest in
    let none = (subst (λ (o : Option Part). MatchOption o ((vec_len c.loop-part.parts ≡ 0) × (vec_len c.pop.new.self ≡ 0)) (λ _. vec_len c.pop.new.self + 1 ≡ vec_len c.loop-part.parts)) c.in_default.is c.pop.ensures.cases).0 in
    let left : c.pop.new.self.items ≡ [] = rest ∙ ap (λ n. take (n - 1) c.loop-part.parts.items) none in
    gathers_all c.args._script.now c.args.parts.items c.loop-part.parts.items c.loop-part.outcomes (items ∙ (ap (λ (o : Option Part). c.pop.new.self.items ++ option_to_list o) c.in_default.is ∙ ap (λ (l : List Part). l ++ []) left))
    c.loop-part.invariant.gathers
