use Rattle.std.proofs.Common.{◌≡◌, ◌<◌, ℕ, None}
use Rattle.hall_rooms.specs.Rooms.{beginning_of}
use Rattle.hall_rooms.specs.Steps.{IsCleanTurn}
use Rattle.hall_rooms.specs.Making.{WholeRounds, StayInTurn}
use Rattle.hall_rooms.proofs.Clearing.{AtRound, SoFar}
use Rattle.hall_rooms.proofs.making.clear.Given as goal

abbrev pub invariant-loop : goal.invariant-loop
invariant-loop g l = record {
  goes : StayInTurn l.hall l.initial.pass l.pass l.initial.others l.others;
  clean : IsCleanTurn (beginning_of l.hall) l.room l.pass;
  no_job : l.room.room.job ≡ None;
  so_far : SoFar l.initial.room l.room;
  rounds : WholeRounds (beginning_of l.hall).seats l.counter l.initial.room l.room;
  at_round : 0 < l.counter → AtRound (beginning_of l.hall) l.initial.room l.room l.pass l.others;
}
