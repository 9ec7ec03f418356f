-- A pair that is read with one test of the length for its key and the length of its value, and one for both texts.
use Rattle.std.proofs.Common.{◌≡◌, ℕ, ◌+◌, ◌<◌, ◌≤◌, Bool, true, false, cond, List, length, take, drop, Option, Some, None, ap, ◌∙◌, arith, inl, inr, length-drop}
use Rattle.std.specs.Int.{w16, from_be_bytes}
use Rattle.std.proofs.lemmas.Bool.{cases_lt, lt-ltb}
use Rattle.fine_model.specs.Map.{Pair}
use Rattle.node_record.specs.Reading.{◌>>=◌, only, within, text_at, byte_at, number_at, key_at, value_at, pair_at}
use Rattle.node_record.proofs.FieldsRead.{part_is}

-- ---- a text behind its length

abbrev behind_len : ℕ → Option (ℕ × List ℕ) → Option (List ℕ × List ℕ)
behind_len most len = only (within 1 most) len >>= λ n. text_at n.0 n.1

abbrev read_len : ℕ → List ℕ → Option (ℕ × List ℕ)
read_len len rest = Some (len, rest)

tested : (most len : ℕ) (rest : List ℕ) (read : Option (ℕ × List ℕ)) (b : Bool) → read ≡ Some (len, rest) → within 1 most len ≡ b → behind_len most read ≡ (cond b (read_len len rest) None >>= λ n. text_at n.0 n.1)
tested most len rest read b is fits = ap (behind_len most) is ∙ ap (λ (c : Bool). cond c (read_len len rest) None >>= λ n. text_at n.0 n.1) fits

text_short : (n : ℕ) (bytes : List ℕ) → length bytes < n → text_at n bytes ≡ None
text_short n bytes short = ap (λ (b : Bool). cond b None (Some (take n bytes, drop n bytes))) (lt-ltb (length bytes) n short)

number_short : (bytes : List ℕ) → length bytes < 2 → number_at w16 bytes ≡ None
unfolding number_at
number_short bytes short = ap (λ (r : Option (List ℕ × List ℕ)). r >>= λ t. Some (from_be_bytes w16 t.0, t.1)) (text_short 2 bytes short)

-- ---- a pair

abbrev with_value : List ℕ → Option (List ℕ × List ℕ) → Option (Pair × List ℕ)
with_value key value = value >>= λ v. Some ((key, v.0), v.1)

abbrev with_key : Option (List ℕ × List ℕ) → Option (Pair × List ℕ)
with_key key = key >>= λ k. with_value k.0 (behind_len 256 (number_at w16 k.1))

module _ (bytes text : List ℕ) (at key_len : ℕ) (starts : at ≤ length bytes) (read : byte_at text ≡ Some (key_len, drop at bytes)) (fits : within 1 64 key_len ≡ true) where
  abbrev key : List ℕ
  key = take key_len (drop at bytes)

  -- it is a pair as far as its key is there, and a value behind it
  key_first : pair_at text ≡ with_key (text_at key_len (drop at bytes))
  unfolding pair_at key_at value_at
  key_first = ap with_key (tested 64 key_len (drop at bytes) (byte_at text) true read fits)

  value_next : at + key_len ≤ length bytes → pair_at text ≡ with_value key (behind_len 256 (number_at w16 (drop (at + key_len) bytes)))
  value_next within = key_first ∙ ap with_key ((part_is key_len bytes at within).read)

  pub no_value_len : length bytes < at + key_len + 2 → pair_at text ≡ None
  no_value_len short =
      elim (cases_lt (length bytes) (at + key_len)) [
        | inl lt ↦ key_first ∙ ap with_key (text_short key_len (drop at bytes) (omega (arith, lt, starts, length-drop at bytes)))
        | inr le ↦ value_next le ∙ ap (λ (r : Option (ℕ × List ℕ)). with_value key (behind_len 256 r)) (number_short (drop (at + key_len) bytes) (omega (arith, short, le, length-drop (at + key_len) bytes)))
      ]

  module _ (value_at value_len : ℕ) (behind : at + key_len ≤ length bytes) (value_starts : value_at ≤ length bytes) (number : number_at w16 (drop (at + key_len) bytes) ≡ Some (value_len, drop value_at bytes)) where
    pub no_value : within 1 256 value_len ≡ false → pair_at text ≡ None
    no_value bad = value_next behind ∙ ap (with_value key) (tested 256 value_len (drop value_at bytes) (number_at w16 (drop (at + key_len) bytes)) false number bad)

    text_next : within 1 256 value_len ≡ true → pair_at text ≡ with_value key (text_at value_len (drop value_at bytes))
    text_next good = value_next behind ∙ ap (with_value key) (tested 256 value_len (drop value_at bytes) (number_at w16 (drop (at + key_len) bytes)) true number good)

    pub short_value : within 1 256 value_len ≡ true → length bytes < value_at + value_len → pair_at text ≡ None
    short_value good short = text_next good ∙ ap (with_value key) (text_short value_len (drop value_at bytes) (omega (arith, short, value_starts, length-drop value_at bytes)))

    pub whole_pair : within 1 256 value_len ≡ true → value_at + value_len ≤ length bytes → pair_at text ≡ Some ((key, take value_len (drop value_at bytes)), drop (value_at + value_len) bytes)
    whole_pair good enough = text_next good ∙ ap (with_value key) ((part_is value_len bytes value_at enough).read)

-- the same pair, by other words for its places
abbrev pair_between : List ℕ → ℕ → ℕ → ℕ → ℕ → ℕ → Option (Pair × List ℕ)
pair_between bytes at key_len value_at value_len end = Some ((take key_len (drop at bytes), take value_len (drop value_at bytes)), drop end bytes)

pub same_pair : (bytes : List ℕ) (at k value_at v end k' v' end' : ℕ) → k ≡ k' → v ≡ v' → end ≡ end' → pair_between bytes at k value_at v end ≡ pair_between bytes at k' value_at v' end'
same_pair bytes at k value_at v end k' v' end' ks vs ends i = pair_between bytes at (ks i) value_at (vs i) (ends i)
