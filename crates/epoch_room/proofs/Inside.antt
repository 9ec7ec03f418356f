-- A room by its fields, and what a call is to show of it at each of its ends.
use Rattle.std.proofs.Common.{◌≡◌, Err, Result, sym, subst, ap, ◌∙◌}
use Rattle.std.specs.Prelude.{IsErrAnd}
use Rattle.std.proofs.lemmas.Result.{err_from_is_err_and}
use Rattle.log_disk.specs.Disk.{Disk}
use Rattle.epoch_room.specs.Value.{Kept, RoomValue, value_of}
use Rattle.epoch_room.specs.Whole.{IsWhole}
use Rattle.epoch_room.specs.declared.answers.RoomFault.{RoomFault}
use Rattle.epoch_room.specs.declared.answers.RoomFault.TheVariants as room_fault
use Rattle.epoch_room.specs.declared.room.Room.TheInside.{Inside}

abbrev pub kept_in : {A B : Type 0} → Inside A B → Kept
kept_in r = record { parts = r.parts; retired = r.retired.items; free = r.free; lost = r.lost; target = r.target; board = r.board; job = r.job; epoch = r.epoch; sealed = r.sealed; places = r.places; is_shut = r.is_shut }

abbrev pub room_in : {A B : Type 0} → (A → Disk) → Inside A B → RoomValue
room_in state r = value_of (state r.disk) (state r.entry.value) (kept_in r)

-- the room is whole, and what the call says of it and of the room at entry holds
abbrev pub Ends : (RoomValue → RoomValue → Type 0) → RoomValue → RoomValue → Type 0
Ends says old new = IsWhole new × says old new

-- it is shown of values that these two are
pub ends : (says : RoomValue → RoomValue → Type 0) {known old made new : RoomValue} → known ≡ old → new ≡ made → Ends says known made → Ends says old new
ends says {known} {old} {made} {new} entry is h = (subst IsWhole (sym is) h.0, subst (λ v. says v new) entry (subst (says known) (sym is) h.1))

-- what a `?` answers that makes want of memory a fault
pub no_memory : {A : Type 0} (says : Result A RoomFault → Type 0) (r : Result A RoomFault) → IsErrAnd r (λ e. e ≡ room_fault.NoMemory) → says (Err room_fault.NoMemory) → says r
no_memory says r gives h = let p = err_from_is_err_and r gives in subst says (sym (p.1 ∙ ap (λ (e : RoomFault). Err e) p.2)) h
