use Rattle.std.proofs.Common.{◌+◌, ◌++◌, ◌∷◌, [], ap, refl, sym, subst}
use Rattle.log_disk.specs.Disk.{OpenEye, AreNumbered}
use Rattle.log_disk.specs.Eyes.{eyes_in, numbers_to}
use Rattle.log_disk.proofs.Numbers.{listed_more, number_is_new, numbers_more, numbered_opens}
use Rattle.log_disk.proofs.eyes.OpenEyes.open.Goals as goal

pub returns-clause-is_new : goal.returns-clause-is_new
returns-clause-is_new c = number_is_new c.args.self.now.given

pub returns-clause-numbers : goal.returns-clause-numbers
returns-clause-numbers c = numbers_more c.args.self.now.given

pub returns-clause-eyes : goal.returns-clause-eyes
returns-clause-eyes c =
    listed_more c.args.self.now.open.items _ _ (record { number = c.args.self.now.given + 1; regions = c.of.result }) (c.args.self.now.given + 1) c.args.regions.now.items
    c.push_reserved.ensures.items refl refl (ap (λ v. v.items) c.of.ensures)

pub returns-clause-numbered : goal.returns-clause-numbered
returns-clause-numbered c =
    let given = c.args.self.now.given in
    let eye : OpenEye = record { number = given + 1; regions = c.args.regions.now.items } in
    subst (λ eyes. AreNumbered eyes (numbers_to (given + 1))) (sym (returns-clause-eyes c))
    (subst (AreNumbered (eyes_in c.args.self.now ++ eye ∷ [])) (sym (numbers_more given))
    (numbered_opens (eyes_in c.args.self.now) (numbers_to given) eye (number_is_new given) c.requires.numbered))
