use Rattle.std.proofs.Common.{[], sym}
use Rattle.std.proofs.lemmas.List.{append-nil}
use Rattle.script_text.proofs.Paging.{sends_lost, sends_put}
use Rattle.script_text.proofs.page.Page.flush.Goals.{then-not-self, else-not-self}
use Rattle.script_text.proofs.page.Page.flush.Goals as goal

pub returns-clause-sends : goal.returns-clause-sends
returns-clause-sends g c = elim c.if-not-self.branch [
  | then-not-self w ↦ rw (w.sink-is, w.self-inside-is, ← c.self.view_is)
      (sends_put w.put.result _ [] _ _ _ _ _ _ w.if-not-self.true w.is_err-self-inside.ensures.value c.clear.ensures (sym (append-nil _)) (rw w.as_slice.ensures at w.put.ensures.puts) w.put.ensures.counts)
  | else-not-self w ↦ rw (w.sink-is, w.self-inside-is, ← c.self.view_is) (sends_lost [] _ _ _ _ w.if-not-self.false w.if-not-self.false)
]
