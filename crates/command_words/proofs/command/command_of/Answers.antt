use Rattle.std.proofs.Common.{◌≡◌, true, [], option_map, map, string_bytes, sym, ap, ◌∙◌, subst}
use Rattle.std.proofs.lemmas.Result.{IfOk-weaker}
use Rattle.clap.specs.Faults.{fault_of, is_simple_and_free}
use Rattle.clap.specs.Kinds.{HasKind}
use Rattle.clap.specs.Simple.{App, HasMatchesOf}
use Rattle.clap.specs.Values.{kind_of}
use Rattle.command_words.specs.Words.{meant}
use Rattle.command_words.proofs.Parsing.{program_is_free, program_is_simple, taken_is, refused_is}
use Rattle.command_words.proofs.command.command_of.Goals as goal

pub returns-in-Ok-clause-is : goal.returns-in-Ok-clause-is
returns-in-Ok-clause-is c =
    let words = map string_bytes c.args.words.now in
    let none = subst (λ (a : App). is_simple_and_free a ≡ true → fault_of a words ≡ []) c.in_ok-program.ensures c.in-Ok.ensures.kinds program_is_free in
    let found = subst (λ (a : App). HasMatchesOf a words c.in-Ok.matches) c.in_ok-program.ensures c.in-Ok.ensures.matches program_is_simple in
    c.command_found.ensures.is ∙ taken_is words _ none found.1

pub returns-in-Err-clause-is : goal.returns-in-Err-clause-is
returns-in-Err-clause-is c =
    let words = map string_bytes c.args.words.now in
    let kinds = subst (λ (a : App). is_simple_and_free a ≡ true → HasKind (fault_of a words) c.in-Err.error) c.in_ok-program.ensures c.in-Err.ensures.kinds program_is_free in
    IfOk-weaker c.refused.result _ _ (λ command none. ap (option_map meant) none.0 ∙ sym (refused_is words (kind_of c.in-Err.error) none.1 kinds)) c.refused.ensures
