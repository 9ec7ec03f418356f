use Rattle.std.proofs.Common.{rules, ◌<◌, length, ◌==◌, not, ap, map, sym, subst, ◌∙◌}
use Rattle.std.proofs.lemmas.Fn.{filter_same}
use Rattle.log_disk.specs.Disk.{OpenEye, AreNumbered}
use Rattle.log_disk.specs.Eyes.{open_of, eyes_in, numbers_to}
use Rattle.log_disk.proofs.Numbers.{fewer_open, open-filter, numbered_closes}
use Rattle.log_disk.proofs.eyes.OpenEyes.close.Goals as goal

pub returns-clause-eyes : goal.returns-clause-eyes
returns-clause-eyes c =
    ap (map open_of) (filter_same _ (λ eye. not (eye.number == c.args.number)) _ (λ x b f h. search rules) _ _ c.retain.ensures.filtered)
    ∙ open-filter c.args.number c.args.self.now.open.items

pub returns-clause-numbered : goal.returns-clause-numbered
returns-clause-numbered c =
    subst (λ eyes. AreNumbered eyes (numbers_to c.args.self.now.given)) (sym (returns-clause-eyes c))
    (numbered_closes (eyes_in c.args.self.now) (numbers_to c.args.self.now.given) (λ (eye : OpenEye). not (eye.number == c.args.number)) c.requires.numbered)

pub returns-clause-fewer : goal.returns-clause-fewer
returns-clause-fewer c = λ there. subst (λ eyes. length eyes < length (eyes_in c.args.self.now)) (sym (returns-clause-eyes c)) (fewer_open c.args.number (eyes_in c.args.self.now) there)
