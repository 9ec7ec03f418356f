use Rattle.std.proofs.Common.{arith}
use Rattle.fine_hall.proofs.Leaving.{few_seats, counted_words}
use Rattle.fine_hall.proofs.hall.Hall+R+B+V.seats.Goals as goal

pub overflow_sub-result : goal.overflow_sub-result
overflow_sub-result g c = let n = c.word_count.ensures in let w = counted_words c.args.self.now.table.shared.key.seats c.args.self.now.table.shared.table_id.words c.requires.pass.words in omega (arith, n, w)

pub overflow_sub-result-2 : goal.overflow_sub-result-2
overflow_sub-result-2 g c = let n = c.word_count.ensures in let w = counted_words c.args.self.now.table.shared.key.seats c.args.self.now.table.shared.table_id.words c.requires.pass.words in omega (arith, n, w)

pub overflow_cast-result : goal.overflow_cast-result
overflow_cast-result g c = let n = c.word_count.ensures in let w = counted_words c.args.self.now.table.shared.key.seats c.args.self.now.table.shared.table_id.words c.requires.pass.words in
    let few = few_seats c.args.self.now.table.shared.key.seats c.requires.pass.few in omega (arith, n, w, few)

pub returns : goal.returns
returns g c = let n = c.word_count.ensures in let w = counted_words c.args.self.now.table.shared.key.seats c.args.self.now.table.shared.table_id.words c.requires.pass.words in omega (arith, n, w)
