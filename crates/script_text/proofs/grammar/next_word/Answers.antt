use Rattle.std.proofs.Common.{◌<◌, length, ap, sym, ◌∙◌, arith}
use Rattle.std.proofs.lemmas.Bool.Decides.{nat_tests}
use Rattle.script_text.proofs.Wording.{words_blank, words_next}
use Rattle.script_text.proofs.grammar.next_word.Goals as goal

pub returns-then-is_empty : goal.returns-then-is_empty
returns-then-is_empty c =
    words_blank c.spaces.result c.args.line.now c.spaces.ensures.within c.spaces.ensures.spaces
    (ap length (sym c.split_at.ensures.back) ∙ grind (arith, nat_tests))

pub returns : goal.returns
returns c =
    let some : 0 < length c.split_at.result.1.now = grind (arith, nat_tests) in
    rw (c.split_at-2.ensures.front, c.split_at-2.ensures.back)
    (words_next c.spaces.result c.place_of.result c.args.line.now c.split_at.result.1.now c.spaces.ensures.within c.spaces.ensures.spaces
    c.split_at.ensures.back c.spaces.ensures.behind some c.place_of.ensures.within c.place_of.ensures.before c.place_of.ensures.there)
