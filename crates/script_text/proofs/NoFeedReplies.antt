-- What the store answers from a map whose keys and values hold no line feed.
use Rattle.std.proofs.Common.{Bool, true, false, cond, if◌then◌else◌, ℕ, List, [], ◌∷◌, ℤ, ◌+ℤ◌, Option, Some, None, option_map}
use Rattle.std.specs.Prelude.{find, bytes_eq, ⊤}
use Rattle.std.specs.List.{AllByRecursion}
use Rattle.fine_model.specs.declared.Call.{Call}
use Rattle.fine_model.specs.declared.Call.TheVariants as call
use Rattle.fine_model.specs.declared.Reply.{Reply}
use Rattle.fine_model.specs.declared.Reply.TheVariants as reply
use Rattle.fine_model.specs.declared.Write.{Write}
use Rattle.fine_model.specs.declared.Write.TheVariants as write
use Rattle.fine_model.specs.Map.{Pair, get, has, set, unset, between, pairs_below, pairs_above, is_below, map_after}
use Rattle.fine_model.specs.NumberText.{number_text, is_i64}
use Rattle.fine_model.specs.Store.{answer, add_answer, sum_answer, number_at, value_answer, after_call, replies_to, writes_of}
use Rattle.fine_model.proofs.Ordered.Lists.{all_take}
use Rattle.fine_model.proofs.Ordered.Sets.{all_append, all_filter}
use Rattle.script_text.specs.Marks.{HasNoFeed, PairHasNoFeed, CallHasNoFeed, ReplyHasNoFeed}
use Rattle.script_text.proofs.Feeds.{no_number}

abbrev pub MapHasNoFeed : List Pair → Type 0
MapHasNoFeed m = AllByRecursion PairHasNoFeed m

-- what a write stores
abbrev pub WriteHasNoFeed : Write → Type 0
WriteHasNoFeed (write.Set key value) = HasNoFeed key × HasNoFeed value
WriteHasNoFeed (write.Unset key) = ⊤

got : (key : List ℕ) (m : List Pair) → MapHasNoFeed m → ReplyHasNoFeed (value_answer (get m key))
unfolding get
got key [] all = tt
got key (p ∷ ps) all = by (bytes_eq p.0 key) (got key ps all.1)
  where
    behind : Option Pair
    behind = find (λ q. bytes_eq q.0 key) ps

    by : (t : Bool) → ReplyHasNoFeed (value_answer (option_map (λ q. q.1) behind)) → ReplyHasNoFeed (value_answer (option_map (λ q. q.1) (cond t (Some p) behind)))
    by true rest = all.0.1
    by false rest = rest

set_all : (m : List Pair) (key value : List ℕ) → MapHasNoFeed m → HasNoFeed key → HasNoFeed value → MapHasNoFeed (set m key value)
unfolding set
set_all m key value all k v =
    all_append PairHasNoFeed (pairs_below key m) ((key, value) ∷ pairs_above key m) (all_filter PairHasNoFeed (λ p. is_below p.0 key) m all)
    ((k, v), all_filter PairHasNoFeed (λ p. is_below key p.0) m all)

unset_all : (m : List Pair) (key : List ℕ) → MapHasNoFeed m → MapHasNoFeed (unset m key)
unfolding unset
unset_all m key all =
    all_append PairHasNoFeed (pairs_below key m) (pairs_above key m) (all_filter PairHasNoFeed (λ p. is_below p.0 key) m all)
    (all_filter PairHasNoFeed (λ p. is_below key p.0) m all)

between_all : (low high : List ℕ) (m : List Pair) → MapHasNoFeed m → MapHasNoFeed (between low high m)
unfolding between
between_all low high m all = all_filter PairHasNoFeed _ m all

pub after_all : (m : List Pair) (writes : List Write) → MapHasNoFeed m → AllByRecursion WriteHasNoFeed writes → MapHasNoFeed (map_after m writes)
unfolding map_after
after_all m [] all w = all
after_all m (write.Set key value ∷ ws) all w = after_all (set m key value) ws (set_all m key value all w.0.0 w.0.1) w.1
after_all m (write.Unset key ∷ ws) all w = after_all (unset m key) ws (unset_all m key all) w.1

-- a reply, and what is written with it
abbrev Answers : Reply × List Write → Type 0
Answers a = ReplyHasNoFeed a.0 × AllByRecursion WriteHasNoFeed a.1

sum_all : (key : List ℕ) (sum : ℤ) → HasNoFeed key → Answers (sum_answer key sum)
unfolding sum_answer
sum_all key sum k = by (is_i64 sum)
  where
    by : (t : Bool) → Answers (if t then (reply.Sum sum, write.Set key (number_text sum) ∷ []) else (reply.OutOfRange, []))
    by true = (tt, ((k, no_number sum), tt))
    by false = (tt, tt)

added_all : (key : List ℕ) (number : Option ℤ) (by : ℤ) → HasNoFeed key → Answers (add_answer key number by)
unfolding add_answer
added_all key None by k = (tt, tt)
added_all key (Some n) by k = sum_all key (n +ℤ by) k

answer_all : (m : List Pair) (c : Call) → MapHasNoFeed m → CallHasNoFeed c → Answers (answer m c)
unfolding answer
answer_all m (call.Get key) all h = (got key m all, tt)
answer_all m (call.Put key value) all h = (tt, (h, tt))
answer_all m (call.Del key) all h = by (has m key)
  where
    by : (t : Bool) → Answers (if t then (reply.Removed, write.Unset key ∷ []) else (reply.Absent, []))
    by true = (tt, (tt, tt))
    by false = (tt, tt)
answer_all m (call.Add key by) all h = added_all key (number_at m key) by h
answer_all m (call.Scan low high limit) all h = (all_take PairHasNoFeed limit (between low high m) (between_all low high m all), tt)

-- the replies to calls in order, and all that they write
pub replies_all : (m : List Pair) (calls : List Call) → MapHasNoFeed m → AllByRecursion CallHasNoFeed calls
    → AllByRecursion ReplyHasNoFeed (replies_to m calls) × AllByRecursion WriteHasNoFeed (writes_of m calls)
unfolding replies_to writes_of
replies_all m [] all h = (tt, tt)
replies_all m (c ∷ cs) all h =
    let one = answer_all m c all h.0 in
    let rest = replies_all (after_call m c) cs (after_all m (answer m c).1 all one.1) h.1 in
    ((one.0, rest.0), all_append WriteHasNoFeed (answer m c).1 (writes_of (after_call m c) cs) one.1 rest.1)
