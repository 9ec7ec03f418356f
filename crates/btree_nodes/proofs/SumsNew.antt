-- Adding to an absent key, and adding on sound rows.
use Rattle.std.proofs.Common.{◌≡◌, ℕ, Bool, true, false, if◌then◌else◌, List, [], ◌∷◌, ◌++◌, None, Result, Err, ℤ, pos, negsuc, ◌+ℤ◌, FitsSigned, w64, refl, sym, ap, ◌∙◌, arith}
use Rattle.std.proofs.lemmas.Int.{ints}
use Rattle.std.proofs.lemmas.Fmt.{length_signed_le, decimal_nonempty}
use Rattle.fine_model.specs.declared.Call.TheVariants as call
use Rattle.fine_model.specs.declared.FetchFault.{FetchFault}
use Rattle.fine_model.specs.declared.Rec.TheVariants as rec
use Rattle.fine_model.specs.declared.Reply.{Reply}
use Rattle.fine_model.specs.declared.Reply.TheVariants as reply
use Rattle.fine_model.specs.declared.Row.{Row}
use Rattle.fine_model.specs.declared.Write.{Write}
use Rattle.fine_model.specs.declared.Write.TheVariants as write
use Rattle.fine_model.specs.Map.{Pair, get, has}
use Rattle.fine_model.specs.NumberText.{number_text, is_i64}
use Rattle.fine_model.specs.Pushed.{Push, call_push, push_of, add_push, leaf_push, set_push, pairs_beside, within_limits}
use Rattle.fine_model.specs.RowBytes.{FitsValue}
use Rattle.fine_model.specs.Store.{answer, add_answer, sum_answer, number_at}
use Rattle.fine_model.specs.Trees.{bucket_of, map_of, IsSound}
use Rattle.node_cache.specs.Cache.{Cache}
use Rattle.btree_nodes.specs.declared.fault.TreeFault.{TreeFault}
use Rattle.btree_nodes.specs.declared.fault.TreeFault.TheVariants.{Source, Unfit, BucketFull, Number, NoMemory}
use Rattle.node_cache.specs.Given.{Finds, given, IsCached}
use Rattle.btree_nodes.specs.Trees.{unfit_in, pairs_in, Serves, Holds, first_over}
use Rattle.btree_nodes.specs.Calls.{Outcome, IsChange, SoundOutcome}
use Rattle.btree_nodes.proofs.OnWays.{holds_on_way}
use Rattle.node_cache.proofs.Loading.{none_there}
use Rattle.btree_nodes.proofs.Sound.{theirs, holds_agrees, sound_pairs, sound_value, sound_leaf_push}
use Rattle.btree_nodes.proofs.SoundCalls.{outcome_soundly}
use Rattle.btree_nodes.proofs.SoundGrowth.{sound_set_push}

-- the text of a number is within the bounds of a value
pub text_fits : (z : ℤ) → FitsSigned w64 z → FitsValue (number_text z)
unfolding number_text
text_fits (pos n) h = let le = length_signed_le 19 (pos n) (omega (arith, h)) (omega (arith, h)) in let some = decimal_nonempty n (omega (arith, h)) in (omega arith, omega arith)
text_fits (negsuc n) h = let le = length_signed_le 19 (negsuc n) (omega (arith, h)) (omega (arith, h)) in (omega arith, omega arith)

writes_absent : (m : List Pair) (key : List ℕ) (by : ℤ) → get m key ≡ None → is_i64 by ≡ true → (answer m (call.Add key by)).1 ≡ write.Set key (number_text by) ∷ []
unfolding answer number_at add_answer sum_answer
writes_absent m key by is fits =
    let same : pos 0 +ℤ by ≡ by = omega (arith, ints) in
    rw is (ap (λ z. (sum_answer key z).1) same ∙ ap (λ t. (both t).1) fits)
  where
    both : Bool → Reply × List Write
    both t = if t then (reply.Sum by, write.Set key (number_text by) ∷ []) else (reply.OutOfRange, [])

-- adding to an absent key pushes what setting the number's text does
pub pushed_new : (b : Cache) (key : List ℕ) (by : ℤ) → has (pairs_in b key) key ≡ false → is_i64 by ≡ true → call_push b.bucket (given b) (call.Add key by) ≡ call_push b.bucket (given b) (call.Put key (number_text by))
unfolding call_push add_push
pushed_new b key by absent fits =
    ap (add_push b.bucket (given b) key by (pairs_in b key)) (writes_absent (pairs_in b key) key by (none_there (get (pairs_in b key) key) absent) fits)
    ∙ ap (λ t. if t then leaf_push b.bucket (given b) key (rec.Plus key by) (given b 0).0 else set_push b.bucket (given b) (key, number_text by) (given b 0).0) absent

-- a fault of a call that pushes the same
pub fault_same : {A B : Type 0} (mid new : Cache) (log log' : List Row) (key value : List ℕ) (by : ℤ) (P : A → Type 0) (Q : B → Type 0) (F : FetchFault → Type 0) → call_push mid.bucket (given mid) (call.Add key by) ≡ call_push mid.bucket (given mid) (call.Put key value) → (e : TreeFault)
    → Outcome mid new log log' (call.Put key value) P F (Err e) → Outcome mid new log log' (call.Add key by) Q F (Err e)
fault_same mid new log log' key value by P Q F same (Source f) h = h
fault_same mid new log log' key value by P Q F same (Unfit id) h = h
fault_same mid new log log' key value by P Q F same (BucketFull n m) h = (ap within_limits same ∙ h.0, h.1, h.2, h.3)
fault_same mid new log log' key value by P Q F same (Number id) h = (ap within_limits same ∙ h.0, ap (λ (p : Push). first_over p.rows) same ∙ h.1, h.2, h.3)
fault_same mid new log log' key value by P Q F same NoMemory h = h

-- ---- on sound rows

answer_same : (m m' : List Pair) (key : List ℕ) (by : ℤ) → get m key ≡ get m' key → (answer m (call.Add key by)).0 ≡ (answer m' (call.Add key by)).0
unfolding answer number_at
answer_same m m' key by same = rw same refl

module _ (rows log : List Row) (mid : Cache) (key : List ℕ) (by : ℤ) (sound : IsSound (rows ++ log)) (of_key : mid.bucket ≡ bucket_of key) (holds : Holds mid rows log) (here : IsCached mid 0) (fit : unfit_in mid key ≡ None) where
  writes_same : (pairs : List Pair) (ws : List Write) → add_push (bucket_of key) (given mid) key by pairs ws ≡ add_push (bucket_of key) (theirs (rows ++ log) key) key by pairs ws
  unfolding add_push
  writes_same pairs [] = refl
  writes_same pairs (write.Unset k ∷ ws) = refl
  writes_same pairs (write.Set k text ∷ ws) = λ i.
      if has pairs key then sound_leaf_push (rows ++ log) key sound mid of_key (holds_agrees mid rows log key of_key holds) (rec.Plus key by) here fit i
      else sound_set_push (rows ++ log) key text sound mid of_key (holds_agrees mid rows log key of_key holds) here fit i

  pub add_same : push_of (rows ++ log) (call.Add key by) ≡ call_push mid.bucket (given mid) (call.Add key by)
  unfolding push_of call_push
  add_same =
      sym ((λ i. let m = sound_pairs (rows ++ log) key sound mid of_key (holds_agrees mid rows log key of_key holds) here fit i in add_push (bucket_of key) (given mid) key by m (answer m (call.Add key by)).1)
      ∙ writes_same (pairs_beside (theirs (rows ++ log) key) key (theirs (rows ++ log) key 0).0) (answer (pairs_beside (theirs (rows ++ log) key) key (theirs (rows ++ log) key 0).0) (call.Add key by)).1)
      ∙ ap (λ k. add_push k (given mid) key by (pairs_in mid key) (answer (pairs_in mid key) (call.Add key by)).1) (sym of_key)

  pub reply_same : (answer (pairs_in mid key) (call.Add key by)).0 ≡ (answer (map_of (rows ++ log)) (call.Add key by)).0
  reply_same = answer_same (pairs_in mid key) (map_of (rows ++ log)) key by (sound_value (rows ++ log) key sound mid of_key (holds_agrees mid rows log key of_key holds) here fit)

pub added_soundly : (tells : List Row → Type 0) (finds : Finds) (upper : ℕ) (old new : Cache) (log log' : List Row) (key : List ℕ) (by : ℤ) (F : FetchFault → Type 0) (r : Result Reply TreeFault) → old.bucket ≡ bucket_of key
    → IsChange tells finds upper old new log log' (call.Add key by) (λ mid said. said ≡ (answer (pairs_in mid key) (call.Add key by)).0) F r
    → (rows : List Row) → Serves tells old rows → Holds old rows log → IsSound (rows ++ log) → SoundOutcome rows log log' new (call.Add key by) (λ said. said ≡ (answer (map_of (rows ++ log)) (call.Add key by)).0) r
added_soundly tells finds upper old new log log' key by F r of_key change rows serves holds sound =
    let of_key' = change.loaded.bucket ∙ of_key in
    let holds' = holds_on_way tells finds upper rows log old change.mid key of_key sound change.loaded change.on_way serves holds in
    outcome_soundly rows log log' change.mid new (call.Add key by) (λ said. said ≡ (answer (pairs_in change.mid key) (call.Add key by)).0) (λ said. said ≡ (answer (map_of (rows ++ log)) (call.Add key by)).0) F sound of_key' holds'
    (λ reached. add_same rows log change.mid key by sound of_key' holds' reached.here reached.fit)
    (λ said reached is. is ∙ reply_same rows log change.mid key by sound of_key' holds' reached.here reached.fit) r change.outcome
