-- What is said through a page, piece by piece.
use Rattle.std.proofs.lemmas.Bool.{false≢true}
use Rattle.std.proofs.Common.{◌≡◌, false, true, ℕ, ◌+◌, ◌≤◌, min, List, [], ◌++◌, length, take, Option, Some, None, Result, Ok, Err, IsErr, is_err, ap, sym, ◌∙◌, refl, arith, append_assoc, subst}
use Rattle.std.proofs.lemmas.List.{append-nil, take_min, take_all, take-append-le}
use Rattle.std.proofs.Math.Seq.{take-append-add}
use Rattle.fine_model.specs.Faults.{CountsFault, HasRisen}
use Rattle.script_text.specs.Streams.{Puts, IsPart, behind}
use Rattle.script_text.specs.Pages.{Gathered, Desk, desk, Says, Sends, Finishes}

-- behind twice is behind once
pub behind_twice : (w : Option (List ℕ)) (a b : List ℕ) → behind (behind w a) b ≡ behind w (a ++ b)
behind_twice None a b = refl
behind_twice (Some w) a b = ap Some (append_assoc w a b)

pub behind_none : (w : Option (List ℕ)) → behind w [] ≡ w
behind_none None = refl
behind_none (Some w) = ap Some (append-nil w)

take_of_front : (piece rest : List ℕ) (n : ℕ) → take (min n (length piece)) (piece ++ rest) ≡ take n piece
take_of_front piece rest n = take-append-le (min n (length piece)) piece rest (omega arith) ∙ take_min n piece

pub part_more : (start new : Option (List ℕ)) (x y : List ℕ) → IsPart x start new → IsPart (x ++ y) start new
part_more start new x y p = (min p.0 (length x), p.1 ∙ ap (behind start) (sym (take_of_front x y p.0)))

-- a part of a piece behind a whole text is a part of both
pub part_behind : (start w new : Option (List ℕ)) (front piece : List ℕ) → w ≡ behind start front → IsPart piece w new
    → IsPart (front ++ piece) start new
part_behind start w new front piece e p = (
  length front + p.0,
  p.1 ∙ ap (λ v. behind v (take p.0 piece)) e ∙ behind_twice start front (take p.0 piece)
      ∙ ap (behind start) (sym (take-append-add front piece p.0)),
)

pub sends_none : (d : Desk) → Sends [] d d
sends_none d = record { says = λ start count said s. subst (λ t. Says start count t d) (sym (append-nil said)) s }

pub sends_then : (x y : List ℕ) (a b c : Desk) → Sends x a b → Sends y b c → Sends (x ++ y) a c
sends_then x y a b c p q = record {
  says = λ start count said s. subst (λ t. Says start count t c) (append_assoc said x y) (q.says start count (said ++ x) (p.says start count said s));
}

-- nothing is said to a sink that has failed
pub sends_lost : (text : List ℕ) (w : Option (List ℕ)) (f : ℕ) (p q : Gathered) → p.failed ≡ true → q.failed ≡ true
    → Sends text (desk w f p) (desk w f q)
sends_lost text w f p q lost still = record {
  says = λ start count said s.
      let l = s.lost lost in
      record {
        holds = λ e. absurd (false≢true (sym e ∙ still));
        lost = λ _. record { part = part_more start w said text l.part; rises = l.rises; no_lower = l.no_lower };
      };
}

-- what a page gathered, or a piece past an empty one, is put
pub sends_put : {T E : Type 0} (r : Result T E) (held text : List ℕ) (w v : Option (List ℕ)) (f g : ℕ) (p q : Gathered)
    → p.failed ≡ false → q.failed ≡ is_err r → q.bytes ≡ [] → held ≡ p.bytes ++ text
    → Puts held (IsErr r) w v → CountsFault (IsErr r) f g → Sends text (desk w f p) (desk v g q)
sends_put r held text w v f g p q was is none e puts counts = record {
  says = λ start count said s.
      let h = s.holds was in
      let all : said ++ text ≡ h.part ++ held = ap (λ t. t ++ text) h.whole ∙ append_assoc h.part p.bytes text ∙ ap (λ t. h.part ++ t) (sym e) in
      record {
        holds = λ fine.
            let no : IsErr r → ⊥ = λ bad. false≢true (sym fine ∙ is ∙ bad) in
            record {
              part = said ++ text;
              written = puts.whole no ∙ ap (λ o. behind o held) h.written ∙ behind_twice start h.part held ∙ ap (behind start) (sym all);
              whole = sym (ap (λ t. (said ++ text) ++ t) none ∙ append-nil (said ++ text));
              faults = counts.else_same no ∙ h.faults;
            };
        lost = λ bad.
            let failed : IsErr r = sym is ∙ bad in
            record {
              part = subst (λ t. IsPart t start v) (sym all) (part_behind start w v h.part held h.written puts.part);
              rises = subst (λ n. HasRisen n g) h.faults (counts.rises failed);
              no_lower = subst (λ n. n ≤ g) h.faults counts.no_lower;
            };
      };
}

-- a piece that is gathered
pub sends_gather : (text : List ℕ) (w : Option (List ℕ)) (f : ℕ) (p q : Gathered) → q.failed ≡ p.failed → q.bytes ≡ p.bytes ++ text
    → Sends text (desk w f p) (desk w f q)
sends_gather text w f p q same e = record {
  says = λ start count said s. record {
    holds = λ fine.
        let h = s.holds (sym same ∙ fine) in
        record {
          part = h.part;
          written = h.written;
          whole = ap (λ t. t ++ text) h.whole ∙ append_assoc h.part p.bytes text ∙ ap (λ t. h.part ++ t) (sym e);
          faults = h.faults;
        };
    lost = λ bad.
        let l = s.lost (sym same ∙ bad) in
        record { part = part_more start w said text l.part; rises = l.rises; no_lower = l.no_lower };
  };
}

-- an empty page before a sink has said nothing
pub says_nothing : (w : Option (List ℕ)) (f : ℕ) → Says w f [] (desk w f (record { bytes = []; failed = false }))
says_nothing w f = record {
  holds = λ _. record { part = []; written = sym (behind_none w); whole = refl; faults = refl };
  lost = λ bad. absurd (false≢true bad);
}

pub finishes : {T E : Type 0} (r : Result T E) (old : Desk) (v : Option (List ℕ)) (g : ℕ) (q : Gathered) → q.bytes ≡ []
    → q.failed ≡ is_err r → Sends [] old (desk v g q) → Finishes old (IsErr r) v g
finishes (Ok x) old v g q none is p = record {
  puts = λ start count said s.
      let h = (p.says start count said s).holds is in
      let all : h.part ≡ said = sym (append-nil h.part) ∙ ap (λ t. h.part ++ t) (sym none) ∙ sym h.whole ∙ append-nil said in
      let e : v ≡ behind start said = h.written ∙ ap (behind start) all in
      record { whole = λ _. e; part = (length said, e ∙ ap (behind start) (sym (take_all (length said) said (omega arith)))) };
  counts = λ start count said s.
      let h = (p.says start count said s).holds is in
      record { rises = λ e. absurd (false≢true e); no_lower = subst (λ n. count ≤ n) (sym h.faults) (omega arith); else_same = λ _. h.faults };
}
finishes (Err e) old v g q none is p = record {
  puts = λ start count said s.
      let l = (p.says start count said s).lost is in
      record { whole = λ no. absurd (no refl); part = subst (λ t. IsPart t start v) (append-nil said) l.part };
  counts = λ start count said s.
      let l = (p.says start count said s).lost is in
      record { rises = λ _. l.rises; no_lower = l.no_lower; else_same = λ no. absurd (no refl) };
}

-- a text that was said on a new page, which was then finished
pub puts_all : (text : List ℕ) (failed : Type 0) (w v : Option (List ℕ)) (f g : ℕ) (p : Gathered) (d : Desk) → p ≡ record { bytes = []; failed = false }
    → Sends text (desk w f p) d → Finishes d failed v g → Puts text failed w v × CountsFault failed f g
puts_all text failed w v f g p d e s fin =
    let said = s.says w f [] (subst (λ q. Says w f [] (desk w f q)) (sym e) (says_nothing w f)) in
    (fin.puts w f text said, fin.counts w f text said)
