use Rattle.script_text.proofs.Lining.{sends_words}
use Rattle.script_text.proofs.line.say_words.Goals as goal

pub returns : goal.returns
returns g c = sends_words c.args.words.now c.in-Some.first.now c.in-Some.rest.now _ _ _ c.in-Some.ensures.cases.0 c.say_word.ensures c.say_more.ensures
