use Rattle.std.proofs.Common.{◌≡◌, ◌<◌, ◌∙◌, ◌+◌, ◌-◌, ◌≤◌, ℕ, true, false, leb, List, None, Some, take, drop, length, ap, arith, rules}
use Rattle.std.specs.Int.{from_be_bytes, w16}
use Rattle.std.proofs.lemmas.Bool.{leb-true, leb-false}
use Rattle.node_record.specs.Reading.{number_at, within, pair_at}
use Rattle.node_record.proofs.FieldsRead.{number_is, part_is}
use Rattle.node_record.proofs.PairsRead.{no_value_len, no_value, short_value, whole_pair, same_pair}
use Rattle.node_record.proofs.fields.pair_in.Goals.{After-from_be_bytes-value_len}
use Rattle.node_record.proofs.fields.pair_in.Goals as goal

-- once the length of the value is read
module _ (c : After-from_be_bytes-value_len) where
  abbrev text : List ℕ
  text = c.args.bytes.now

  abbrev key_at : ℕ
  key_at = c.in_ok-len.key_at

  abbrev key_len : ℕ
  key_len = c.in_ok-len.len

  abbrev value_len : ℕ
  value_len = c.from_be_bytes-value_len.result

  key_fits : within 1 64 key_len ≡ true
  key_fits = search rules

  room : key_at + key_len + 2 ≤ length text
  room = let enough : leb (key_len + 2) (length text - key_at) ≡ true = search rules in omega (arith, leb-true (key_len + 2) (length text - key_at) enough, c.in_ok-len.ensures.0)

  number : number_at w16 (drop (key_at + key_len) text) ≡ Some (value_len, drop (key_at + key_len + 2) text)
  number = (number_is w16 text (key_at + key_len) (take 2 (drop (key_at + key_len) text)) value_len (c.from_be_bytes-value_len.ensures ∙ ap (from_be_bytes w16) c.part.ensures) (part_is 2 text (key_at + key_len) room)).1

  no_value_here : within 1 256 value_len ≡ false → pair_at (drop c.args.at text) ≡ None
  no_value_here bad = no_value text (drop c.args.at text) key_at key_len c.in_ok-len.ensures.0 c.in_ok-len.ensures.1 key_fits (key_at + key_len + 2) value_len (omega (arith, room)) room number bad

  short_here : within 1 256 value_len ≡ true → length text < key_at + key_len + 2 + value_len → pair_at (drop c.args.at text) ≡ None
  short_here good short = short_value text (drop c.args.at text) key_at key_len c.in_ok-len.ensures.0 c.in_ok-len.ensures.1 key_fits (key_at + key_len + 2) value_len (omega (arith, room)) room number good short

  whole_here : within 1 256 value_len ≡ true → key_at + key_len + 2 + value_len ≤ length text
      → pair_at (drop c.args.at text) ≡ Some ((take key_len (drop key_at text), take value_len (drop (key_at + key_len + 2) text)), drop (key_at + key_len + 2 + value_len) text)
  whole_here good enough = whole_pair text (drop c.args.at text) key_at key_len c.in_ok-len.ensures.0 c.in_ok-len.ensures.1 key_fits (key_at + key_len + 2) value_len (omega (arith, room)) room number good enough

pub returns-in_err-sure-2 : goal.returns-in_err-sure-2
returns-in_err-sure-2 c =
    let bytes = c.args.bytes.now in
    let at = c.in_ok-len.key_at in
    let k = c.in_ok-len.len in
    let fits : within 1 64 k ≡ true = search rules in
    let short : leb (k + 2) (length bytes - at) ≡ false = search rules in
    let none : pair_at (drop c.args.at bytes) ≡ None = no_value_len bytes (drop c.args.at bytes) at k c.in_ok-len.ensures.0 c.in_ok-len.ensures.1 fits (omega (arith, leb-false (k + 2) (length bytes - at) short)) in
    search rules

pub returns-in_err-sure-3 : goal.returns-in_err-sure-3
returns-in_err-sure-3 c =
    let bad : within 1 256 c.from_be_bytes-value_len.result ≡ false = search rules in
    let none : pair_at (drop c.args.at c.args.bytes.now) ≡ None = no_value_here (goal.at.returns-in_err-sure-3 c).After-from_be_bytes-value_len bad in
    search rules

pub returns-in_err-sure-4 : goal.returns-in_err-sure-4
returns-in_err-sure-4 c =
    let len = c.in_ok-len.len + 2 + c.from_be_bytes-value_len.result in
    let good : within 1 256 c.from_be_bytes-value_len.result ≡ true = search rules in
    let short : leb len (length c.args.bytes.now - c.in_ok-len.key_at) ≡ false = search rules in
    let none : pair_at (drop c.args.at c.args.bytes.now) ≡ None = short_here (goal.at.returns-in_err-sure-4 c).After-from_be_bytes-value_len good (omega (arith, leb-false len (length c.args.bytes.now - c.in_ok-len.key_at) short)) in
    search rules

pub returns : goal.returns
returns c =
    let bytes = c.args.bytes.now in
    let at = c.in_ok-len.key_at in
    let k = c.in_ok-len.len in
    let v = c.from_be_bytes-value_len.result in
    let good : within 1 256 v ≡ true = search rules in
    let all : leb (k + 2 + v) (length bytes - at) ≡ true = search rules in
    let enough : at + (k + 2 + v) ≤ length bytes = omega (arith, leb-true (k + 2 + v) (length bytes - at) all, c.in_ok-len.ensures.0) in
    let end = at + (k + 2 + v) in
    (enough, whole_here (goal.at.returns c).After-from_be_bytes-value_len good (omega (arith, enough)) ∙ same_pair bytes at k (at + k + 2) v (at + k + 2 + v) (at + k - at) (end - (at + k + 2)) end (omega arith) (omega arith) (omega arith))
