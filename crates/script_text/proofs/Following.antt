-- What is ahead of a reader, line by line.
use Rattle.std.proofs.Common.{◌≡◌, ◌≢◌, ◌==◌, false, ℕ, ◌+◌, ◌<◌, ◌≤◌, List, [], ◌∷◌, ◌++◌, length, Option, Some, None, IfSome, Result, Err, refl, sym, ap, ◌∙◌, subst, arith, append_assoc, length-append}
use Rattle.std.proofs.lemmas.Bool.{false≢true}
use Rattle.std.proofs.lemmas.List.{append-nil}
use Rattle.std.proofs.lemmas.List.Elements.{All-head, All-tail}
use Rattle.fine_model.specs.Script.{lines, script_from, script_of, Reading, line_added, meaning, Refusal, many, bad_line}
use Rattle.script_text.specs.Streams.{before}
use Rattle.script_text.specs.Reading.{IsOneLine, Follows}
use Rattle.script_text.specs.Reads.{IsRefusal}
use Rattle.script_text.specs.Turns.{Goes, Refuses}
use Rattle.script_text.specs.declared.read.ScriptFault.{ScriptFault}
use Rattle.script_text.specs.declared.read.ScriptFault.TheVariants as script_fault
use Rattle.fine_model.specs.declared.ScriptTxn.{ScriptTxn}
use Rattle.script_text.proofs.Aheading.{before_none}
use Rattle.script_text.specs.declared.read.Turn.TheVariants as turn
use Rattle.script_text.proofs.Grammars.{AreLetters, lines_feed, lines_some, lines_long, lines_last, script_step, script_bad, script_long, script_many}

letters : (line : List ℕ) → IsOneLine line → AreLetters line
letters [] h = tt
letters (b ∷ bs) h = (All-head (λ x. x ≢ 10) b bs h, letters bs (All-tail (λ x. x ≢ 10) b bs h))

-- told bytes that begin with some are these and others that are told
told_split : (line rest : List ℕ) (new : Option (List ℕ)) → before line new ≡ Some rest → (tail : List ℕ) × (new ≡ Some tail) × (rest ≡ line ++ tail)
told_split line rest None e = absurd cc
told_split line rest (Some tail) e = (tail, refl, cc)

at_end : (tail : List ℕ) (new : Option (List ℕ)) → new ≡ Some tail → IfSome new (λ rest. rest ≡ []) → tail ≡ []
at_end tail None e h = absurd cc
at_end tail (Some rest) e h = let same : rest ≡ tail = cc in sym same ∙ h

pub refuses_long : (n : ℕ) (line : List ℕ) (old new : Option (List ℕ)) (r : Reading) → n ≤ 1000000 → IsOneLine line
    → old ≡ before line new → 512 < length line → Refuses (script_fault.TooLong n) n old r
refuses_long n line old new r few one e long = record {
  refused = λ start f bytes s.
      let h = f.same bytes s in
      let t = told_split line h.0 new (sym e ∙ h.1) in
      let l = lines_long line t.0 (letters line one) (omega arith) in
      sym h.2 ∙ ap (script_from n r) (ap lines t.2 ∙ l.2) ∙ script_long n r (line ++ l.0) l.1 few (omega (arith, length-append line l.0));
}

pub refuses_feed : (n : ℕ) (line : List ℕ) (old new : Option (List ℕ)) (r : Reading) → n ≤ 1000000 → IsOneLine line
    → old ≡ before (line ++ 10 ∷ []) new → length line ≤ 512 → line_added r (meaning line) ≡ None → Refuses (script_fault.Bad n) n old r
refuses_feed n line old new r few one e short bad = record {
  refused = λ start f bytes s.
      let h = f.same bytes s in
      let t = told_split (line ++ 10 ∷ []) h.0 new (sym e ∙ h.1) in
      sym h.2 ∙ ap (script_from n r) (ap lines (t.2 ∙ append_assoc line (10 ∷ []) t.0) ∙ lines_feed line t.0 (letters line one))
      ∙ script_bad n r line (lines t.0) few short bad;
}

last_line : (line rest tail : List ℕ) (new : Option (List ℕ)) → IsOneLine line → 0 < length line → new ≡ Some tail → rest ≡ line ++ tail
    → IfSome new (λ rest. rest ≡ []) → lines rest ≡ line ∷ []
last_line line rest tail new one some e f end =
    ap lines (f ∙ ap (λ t. line ++ t) (at_end tail new e end) ∙ append-nil line) ∙ lines_last line (letters line one) some

pub refuses_last : (n : ℕ) (line : List ℕ) (old new : Option (List ℕ)) (r : Reading) → n ≤ 1000000 → IsOneLine line → 0 < length line
    → old ≡ before line new → length line ≤ 512 → IfSome new (λ rest. rest ≡ [])
    → line_added r (meaning line) ≡ None → Refuses (script_fault.Bad n) n old r
refuses_last n line old new r few one some e short end bad = record {
  refused = λ start f bytes s.
      let h = f.same bytes s in
      let t = told_split line h.0 new (sym e ∙ h.1) in
      sym h.2 ∙ ap (script_from n r) (last_line line h.0 t.0 new one some t.1 t.2 end)
      ∙ script_bad n r line [] few short bad;
}

pub goes_more : (n : ℕ) (line : List ℕ) (old new : Option (List ℕ)) (r s : Reading) → n ≤ 1000000 → IsOneLine line
    → old ≡ before (line ++ 10 ∷ []) new → length line ≤ 512 → line_added r (meaning line) ≡ Some s → Goes turn.More n old new r s
goes_more n line old new r s few one e short good = record {
  follows = λ start f. record {
    same = λ bytes b.
        let h = f.same bytes b in
        let t = told_split (line ++ 10 ∷ []) h.0 new (sym e ∙ h.1) in (
          t.0,
          t.1,
          sym (script_step n r s line (lines t.0) few short good)
              ∙ ap (script_from n r) (sym (ap lines (t.2 ∙ append_assoc line (10 ∷ []) t.0) ∙ lines_feed line t.0 (letters line one))) ∙ h.2,
        );
  };
  end = tt;
}

lines_none : lines [] ≡ []
unfolding lines
lines_none = refl

pub goes_last : (n : ℕ) (line : List ℕ) (old new : Option (List ℕ)) (r s : Reading) → n ≤ 1000000 → IsOneLine line → 0 < length line
    → old ≡ before line new → length line ≤ 512 → IfSome new (λ rest. rest ≡ [])
    → line_added r (meaning line) ≡ Some s → Goes (turn.Ended (n + 1)) n old new r s
goes_last n line old new r s few one some e short end good = record {
  follows = λ start f. record {
    same = λ bytes b.
        let h = f.same bytes b in
        let t = told_split line h.0 new (sym e ∙ h.1) in (
          t.0,
          t.1,
          ap (script_from (n + 1) s) (ap lines (at_end t.0 new t.1 end) ∙ lines_none)
              ∙ sym (script_step n r s line [] few short good)
              ∙ ap (script_from n r) (sym (last_line line h.0 t.0 new one some t.1 t.2 end)) ∙ h.2,
        );
  };
  end = (omega arith, omega arith, end);
}

pub follows_start : (left : Option (List ℕ)) (chunk : List ℕ) (r : Reading) → chunk ≡ [] → r ≡ record { done = []; open_txn = None } → Follows left (before chunk left) 1 r
unfolding script_of
follows_start left chunk r e f = record {
  same = λ bytes b.
      (bytes, ap (λ c. before c left) e ∙ before_none left ∙ b, ap (λ s. script_from 1 s (lines bytes)) f);
}

-- what the end of the input gives is what all bytes give
pub ends_with : (start ahead : Option (List ℕ)) (n : ℕ) (r : Reading) (result : Result (List ScriptTxn) Refusal) → Follows start ahead n r → IfSome ahead (λ rest. rest ≡ [])
    → script_from n r [] ≡ result → (bytes : List ℕ) → start ≡ Some bytes → script_of bytes ≡ result
ends_with start ahead n r result f end e bytes s =
    let h = f.same bytes s in
    sym h.2 ∙ ap (script_from n r) (ap lines (at_end h.0 ahead h.1 end) ∙ lines_none) ∙ e

-- then nothing is left of the source
pub leaves_none : (start left : Option (List ℕ)) (chunk : List ℕ) (n : ℕ) (r : Reading) → Follows start (before chunk left) n r
    → IfSome (before chunk left) (λ rest. rest ≡ []) → (bytes : List ℕ) → start ≡ Some bytes → left ≡ Some []
leaves_none start left chunk n r f end bytes s =
    let h = f.same bytes s in
    let t = told_split chunk h.0 left h.1 in
    let none : chunk ++ t.0 ≡ [] = sym t.2 ∙ at_end h.0 (before chunk left) h.1 end in
    t.1 ∙ ap Some (tail_none chunk t.0 none)
  where
    tail_none : (a b : List ℕ) → a ++ b ≡ [] → b ≡ []
    tail_none [] b e = e
    tail_none (x ∷ a) b e = absurd cc

-- a line behind the last one that may be there
pub too_many : (start ahead left : Option (List ℕ)) (b : ℕ) (chunk : List ℕ) (n : ℕ) (r : Reading) → Follows start ahead n r → 1000000 < n
    → ahead ≡ before (b ∷ chunk) left → (bytes : List ℕ) → start ≡ Some bytes → script_of bytes ≡ Err (many n)
too_many start ahead left b chunk n r f much e bytes s =
    let h = f.same bytes s in
    let t = told_split (b ∷ chunk) h.0 left (sym e ∙ h.1) in
    let l = lines_some b (chunk ++ t.0) in
    sym h.2 ∙ ap (script_from n r) (ap lines t.2 ∙ l.2) ∙ script_many n r l.0 l.1 much

pub is_bad_line : (fault : ScriptFault) (line : ℕ) (bytes : List ℕ) → fault ≡ script_fault.Bad line → script_of bytes ≡ Err (bad_line line) → IsRefusal fault (script_of bytes)
is_bad_line fault line bytes e h = subst (λ f. IsRefusal f (script_of bytes)) (sym e) h

pub follows_same : (start old new : Option (List ℕ)) (n : ℕ) (r : Reading) → old ≡ new → Follows start old n r → Follows start new n r
follows_same start old new n r e f = subst (λ a. Follows start a n r) e f

pub some_bytes : (bytes line : List ℕ) → bytes ≡ line → false ≡ (length bytes == 0) → 0 < length line
some_bytes bytes [] e no_ = absurd (false≢true (no_ ∙ ap (λ t. length t == 0) e))
some_bytes bytes (b ∷ bs) e no_ = omega arith
