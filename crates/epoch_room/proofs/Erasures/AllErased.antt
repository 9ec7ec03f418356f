-- What holds behind each answer of erasing all that no view names.
use Rattle.std.proofs.Common.{◌≡◌, ◌≢◌, ℕ, ◌+◌, ◌^◌, ◌<◌, ◌≤◌, ◌==◌, Bool, true, false, cond, not, ◌||◌, ◌&&◌, List, [], ◌∷◌, ◌++◌, length, map, take, get_or, Ok, Err, Result, None, Some, refl, sym, ap, subst, ◌∙◌, arith, true≢false, append-nil, length-append}
use Rattle.std.specs.Prelude.{IfSome, IsErrOf, Option, filter, find, is_none, is_some, nat_eq, nat_le}
use Rattle.std.specs.List.{AllByRecursion, list_any}
use Rattle.std.proofs.lemmas.Bool.{or_right}
use Rattle.std.proofs.lemmas.List.{length-map, map-append, take_more}
use Rattle.std.proofs.lemmas.List.Elements.{filter-append}
use Rattle.fine_model.specs.declared.Part.{Part}
use Rattle.fine_model.specs.declared.law.RoomState.{RoomState}
use Rattle.fine_model.specs.Boards.{Buffer, naming_of}
use Rattle.fine_model.specs.Chain.{regions_of}
use Rattle.fine_model.proofs.Histories.Goings.{job_itself}
use Rattle.fine_model.proofs.Ordered.Nothing.{each_there}
use Rattle.fine_model.proofs.Ordered.Order.{all_map}
use Rattle.fine_model.proofs.Ordered.Sets.{all_filter, all_pass}
use Rattle.log_disk.specs.declared.refusal.DiskRefusal.{DiskRefusal}
use Rattle.log_disk.specs.declared.refusal.DiskRefusal.TheVariants as refusal
use Rattle.epoch_room.specs.Closing.{LeavesClosing, ReadsButGates}
use Rattle.epoch_room.specs.Erasing.{ErasesAll, ErasesAllOr, ErasesLed, erased_state, unheld, unheld_of, without}
use Rattle.epoch_room.specs.Steps.{Does}
use Rattle.epoch_room.specs.Value.{RoomValue, all_regions}
use Rattle.epoch_room.specs.Whole.{IsWhole}
use Rattle.epoch_room.specs.declared.answers.RoomFault.{RoomFault}
use Rattle.epoch_room.specs.declared.answers.RoomFault.TheVariants as room_fault
use Rattle.epoch_room.proofs.OpenEpochs.Behind.{keeps_none}
use Rattle.epoch_room.proofs.RegionSets.Beside.{filter_few}
use Rattle.epoch_room.proofs.Counting.{retired_few}
use Rattle.epoch_room.proofs.Erasures.GateSteps.{beside_none, closing_none, closing_wider, reads_none, reads_wider}
use Rattle.epoch_room.proofs.Erasures.Led.{retired_parts_small}

abbrev Answer : Type 0
Answer = Result (Unit {0}) DiskRefusal

pub unheld_more : (board : List Buffer) (parts : List Part) (i : ℕ) (d : Part) (now next : List ℕ) → i < length parts → now ≡ unheld_of board (take i parts) → next ≡ now ++ unheld_of board (get_or parts i d ∷ []) → next ≡ unheld_of board (take (i + 1) parts)
unheld_more board parts i d now next low is then' =
    then' ∙ ap (λ xs. xs ++ unheld_of board (get_or parts i d ∷ [])) is
    ∙ sym (filter-append (λ region. is_none (naming_of board region)) (map (λ p. p.region) (take i parts)) (map (λ p. p.region) (get_or parts i d ∷ [])))
    ∙ ap (filter (λ region. is_none (naming_of board region))) (sym (map-append (λ (p : Part). p.region) (take i parts) (get_or parts i d ∷ []))) ∙ ap (unheld_of board) (sym (take_more parts i d low))

-- they lead retired parts, and no view names them
pub unheld_lead : (board : List Buffer) (parts : List Part) → AllByRecursion (λ r. list_any (λ p. p.region == r) parts ≡ true) (unheld_of board parts)
unheld_lead board parts = all_filter (λ r. list_any (λ p. p.region == r) parts ≡ true) (λ region. is_none (naming_of board region)) (map (λ p. p.region) parts) (each parts)
  where
    itself : (n : ℕ) → (n == n) ≡ true
    itself n = grind arith

    each : (ps : List Part) → AllByRecursion (λ r. list_any (λ p. p.region == r) ps ≡ true) (map (λ p. p.region) ps)
    each [] = tt
    each (p ∷ ps) = (
      ap (λ b. b || list_any (λ q. q.region == p.region) ps) (itself p.region),
      all_map (λ r. list_any (λ q. q.region == r) ps ≡ true) (λ r. list_any (λ q. q.region == r) (p ∷ ps) ≡ true) (λ r h. or_right (p.region == r) (list_any (λ q. q.region == r) ps) h) (map (λ q. q.region) ps) (each ps),
    )

pub unheld_unnamed : (board : List Buffer) (parts : List Part) → AllByRecursion (λ r. naming_of board r ≡ None) (unheld_of board parts)
unheld_unnamed board parts = all_map (λ r. is_none (naming_of board r) ≡ true) (λ r. naming_of board r ≡ None) (λ r h. none (naming_of board r) h) (unheld_of board parts) (all_pass (λ region. is_none (naming_of board region)) (map (λ p. p.region) parts))
  where
    none : (o : Option (ℕ × ℕ)) → is_none o ≡ true → o ≡ None
    none None h = refl
    none (Some x) h = absurd (true≢false (sym h))

-- the first lead from a number on leads one of the parts
pub lead_found : (from : ℕ) (parts : List Part) → IfSome (find (nat_le from) (map (λ p. p.region) parts)) (λ region. list_any (λ p. p.region == region) parts ≡ true)
lead_found from [] = tt
lead_found from (p ∷ parts) = by (nat_le from p.region) (lead_found from parts)
  where
    itself : (n : ℕ) → (n == n) ≡ true
    itself n = grind arith

    by : (b : Bool) → IfSome (find (nat_le from) (map (λ p. p.region) parts)) (λ region. list_any (λ p. p.region == region) parts ≡ true)
        → IfSome (cond b (Some p.region) (find (nat_le from) (map (λ p. p.region) parts))) (λ region. (p.region == region || list_any (λ p. p.region == region) parts) ≡ true)
    by true rest = ap (λ b. b || list_any (λ q. q.region == p.region) parts) (itself p.region)
    by false rest = any (find (nat_le from) (map (λ p. p.region) parts)) rest
      where
        any : (o : Option ℕ) → IfSome o (λ region. list_any (λ p. p.region == region) parts ≡ true) → IfSome o (λ region. (p.region == region || list_any (λ p. p.region == region) parts) ≡ true)
        any None h = tt
        any (Some region) h = or_right (p.region == region) (list_any (λ q. q.region == region) parts) h

-- ---- how many, and what is left

-- leads are fewer than regions
pub unheld_few : (value : RoomValue) → IsWhole value → length (unheld value.room) < 2 ^ 32
unheld_few value whole = (
    let filtered = filter_few (λ region. is_none (naming_of value.room.board region)) (map (λ (p : Part). p.region) value.room.retired) in
    let mapped = length-map value.room.retired (λ (p : Part). p.region) in
    let parts = each value.room.retired in
    let few = retired_few value whole in
    omega (arith, filtered, mapped, parts, few)
    )
  where
    each : (ps : List Part) → length ps ≤ length (all_regions ps)
    each [] = omega arith
    each (p ∷ ps) = (let l = length-append (regions_of p) (all_regions ps) in let rest = each ps in omega (arith, l, rest))

pub leads_small : (value : RoomValue) → IsWhole value → AllByRecursion (λ p. p.region < 64) value.room.retired
leads_small value whole = all_map (λ p. AllByRecursion (λ r. r < 64) (regions_of p)) (λ p. p.region < 64) (λ p h. h.0) value.room.retired (retired_parts_small value whole)

-- without the parts that no view names, those that some view names
pub without_unheld : (board : List Buffer) (parts : List Part) → without (unheld_of board parts) parts ≡ filter (λ p. is_some (naming_of board p.region)) parts
without_unheld board parts = each parts (there parts (each_there (map (λ p. p.region) parts)))
  where
    passes : (r : ℕ) (rs : List ℕ) → list_any (nat_eq r) (filter (λ region. is_none (naming_of board region)) rs) ≡ (list_any (nat_eq r) rs && is_none (naming_of board r))
    passes r [] = refl
    passes r (x ∷ xs) = by (nat_eq r x) (is_none (naming_of board x)) refl refl (passes r xs)
      where
        is : (m n : ℕ) → nat_eq m n ≡ true → m ≡ n
        is m n e = grind (arith, e)

        by : (s q : Bool) → nat_eq r x ≡ s → is_none (naming_of board x) ≡ q → list_any (nat_eq r) (filter (λ region. is_none (naming_of board region)) xs) ≡ (list_any (nat_eq r) xs && is_none (naming_of board r))
            → list_any (nat_eq r) (cond q (x ∷ filter (λ region. is_none (naming_of board region)) xs) (filter (λ region. is_none (naming_of board region)) xs)) ≡ ((s || list_any (nat_eq r) xs) && is_none (naming_of board r))
        by true true e h rest = ap (λ b. b || list_any (nat_eq r) (filter (λ region. is_none (naming_of board region)) xs)) e ∙ sym (ap (λ n. is_none (naming_of board n)) (is r x e) ∙ h)
        by true false e h rest =
            let none : is_none (naming_of board r) ≡ false = ap (λ n. is_none (naming_of board n)) (is r x e) ∙ h in rest ∙ ap (λ b. list_any (nat_eq r) xs && b) none ∙ and_false (list_any (nat_eq r) xs) ∙ sym none
          where
            and_false : (b : Bool) → (b && false) ≡ false
            and_false true = refl
            and_false false = refl
        by false true e h rest = ap (λ b. b || list_any (nat_eq r) (filter (λ region. is_none (naming_of board region)) xs)) e ∙ rest
        by false false e h rest = rest

    there : (ps : List Part) → AllByRecursion (λ r. list_any (nat_eq r) (map (λ p. p.region) parts) ≡ true) (map (λ p. p.region) ps) → AllByRecursion (λ p. list_any (nat_eq p.region) (map (λ q. q.region) parts) ≡ true) ps
    there [] all = tt
    there (p ∷ ps) all = (all.0, there ps all.1)

    other : (o : Option (ℕ × ℕ)) → not (is_none o) ≡ is_some o
    other None = refl
    other (Some x) = refl

    each : (ps : List Part) → AllByRecursion (λ p. list_any (nat_eq p.region) (map (λ q. q.region) parts) ≡ true) ps → without (unheld_of board parts) ps ≡ filter (λ p. is_some (naming_of board p.region)) ps
    each [] all = refl
    each (p ∷ ps) all =
        let here : not (list_any (nat_eq p.region) (unheld_of board parts)) ≡ is_some (naming_of board p.region) =
        ap not (passes p.region (map (λ q. q.region) parts) ∙ ap (λ b. b && is_none (naming_of board p.region)) all.0) ∙ other (naming_of board p.region) in
        ap (λ b. cond b (p ∷ without (unheld_of board parts) ps) (without (unheld_of board parts) ps)) here ∙ ap (λ rest. cond (is_some (naming_of board p.region)) (p ∷ rest) rest) (each ps all.1)

-- ---- the answers

pub all_none : (value : RoomValue) (fault : RoomFault) → IsWhole value → ErasesAllOr value value (Err fault) → ErasesAll value value (Err fault)
all_none value fault whole room = record { room = room; left = tt; read = reads_none (unheld value.room) value.disk; leaves = closing_none (unheld value.room) value.disk; beside = beside_none value.disk; keeps = keeps_none value whole; job = job_itself value.room }

pub all_memory : (value : RoomValue) → IsWhole value → value.room.is_shut ≡ false → ErasesAll value value (Err room_fault.NoMemory)
all_memory value whole open_room = all_none value room_fault.NoMemory whole (open_room, ([], unheld value.room, refl, (λ ne. absurd (ne refl)), (λ e. refl, λ ne. absurd (ne refl))))

module _ (leads : List ℕ) (old new : RoomValue) (result : Answer) (are : leads ≡ unheld old.room) (led' : ErasesLed leads old new result) (open_room : old.room.is_shut ≡ false) where
  led : ErasesLed (unheld old.room) old new result
  led = subst (λ rs. ErasesLed rs old new result) are led'

  reads_all : ReadsButGates (unheld old.room) old.disk new.disk
  reads_all = subst (λ rs. ReadsButGates rs old.disk new.disk) (sym led.are) (reads_wider led.begun led.more old.disk new.disk led.read)

  leaves_all : LeavesClosing (unheld old.room) old.disk new.disk
  leaves_all = subst (λ rs. LeavesClosing rs old.disk new.disk) (sym led.are) (closing_wider led.begun led.more old.disk new.disk led.leaves)

  pub all_ok : (n : ℕ) → n ≡ length leads → result ≡ Ok tt → ErasesAll old new (Ok n)
  all_ok n many is =
      let fine : IsErrOf result refusal.Failed → ⊥ = λ f. (let e : ◌≡◌ {A = Answer} (Ok tt) (Err refusal.Failed) = sym is ∙ f in cc) in
      let begun : led.begun ≡ unheld old.room = sym (append-nil led.begun) ∙ ap (λ more. led.begun ++ more) (sym (led.all is)) ∙ sym led.are in
      let none : unheld old.room ≡ [] → new ≡ old = λ e. led.none (begun ∙ e) in
      let some : unheld old.room ≢ [] → (new.disk.unsynced ≡ []) × Does (erased_state old.room (unheld old.room)) old.target old new =
      λ ne. subst (λ rs. (new.disk.unsynced ≡ []) × Does (erased_state old.room rs) old.target old new) begun (led.synced fine (λ e. ne (sym begun ∙ e)), led.does fine (λ e. ne (sym begun ∙ e))) in
      record {
        room = (open_room, many ∙ ap length are, (none, some));
        left = by (unheld old.room) refl none some ∙ without_unheld old.room.board old.room.retired;
        read = reads_all;
        leaves = leaves_all;
        beside = led.beside;
        keeps = led.keeps;
        job = led.job;
      }
    where
      all : (ps : List Part) → ps ≡ without [] ps
      all [] = refl
      all (p ∷ ps) = ap (λ rest. p ∷ rest) (all ps)

      by : (rs : List ℕ) → unheld old.room ≡ rs → (unheld old.room ≡ [] → new ≡ old) → (unheld old.room ≢ [] → (new.disk.unsynced ≡ []) × Does (erased_state old.room (unheld old.room)) old.target old new)
          → new.room.retired ≡ without (unheld old.room) old.room.retired
      by [] e none some = ap (λ (v : RoomValue). v.room.retired) (none e) ∙ all old.room.retired ∙ ap (λ rs. without rs old.room.retired) (sym e)
      by (r ∷ rs) e none some = ap (λ (s : RoomState). s.retired) (some (λ z. let c : ◌≡◌ {A = List ℕ} (r ∷ rs) [] = sym e ∙ z in cc)).1.1.room

  pub all_disk : IsErrOf result refusal.Failed → ErasesAll old new (Err room_fault.Disk)
  all_disk f = record { room = (led.begun, led.more, led.are, led.some f, led.unsynced f, led.shuts f); left = tt; read = reads_all; leaves = leaves_all; beside = led.beside; keeps = led.keeps; job = led.job }

  pub all_less : IsErrOf result refusal.NoMemory → ErasesAll old new (Err room_fault.NoMemory)
  all_less m =
      let fine : IsErrOf result refusal.Failed → ⊥ = λ f. (let e : ◌≡◌ {A = Answer} (Err refusal.NoMemory) (Err refusal.Failed) = sym m ∙ f in cc) in
      record { room = (open_room, (led.begun, led.more, led.are, (λ ne. led.wanted m), (led.none, λ ne. (led.synced fine ne, led.does fine ne)))); left = tt; read = reads_all; leaves = leaves_all; beside = led.beside; keeps = led.keeps; job = led.job }
