-- What a source in memory gives, and what a sink in memory takes.
use Rattle.std.proofs.Common.{◌≡◌, ℕ, ◌+◌, ◌-◌, min, List, ◌++◌, length, take, drop, Some, ap, sym, ◌∙◌, arith, length-drop, length-append, take-append-drop}
use Rattle.std.proofs.lemmas.List.{take_at, drop_all, length-take-le, drop-drop}
use Rattle.script_text.specs.Streams.{Takes}

-- the first n of the bytes that are left were copied
pub takes_first : (items out piece : List ℕ) (at n : ℕ) → n ≡ min (length items - at) (length out)
    → piece ≡ take n (drop at items) → Takes (piece ++ drop n out) n (Some (drop at items)) (Some (drop (at + n) items))
takes_first items out piece at n small e =
    let len : length piece ≡ n = ap length e ∙ length-take-le n (drop at items) (omega (arith, length-drop at items)) in
    record {
      within = rw length-append (omega (arith, length-drop n out));
      bytes = ap Some (sym (ap (λ p. p ++ drop (at + n) items) (take_at piece (drop n out) n len ∙ e) ∙ rw (← drop-drop n at items) (take-append-drop n (drop at items))));
      ends = λ none some. drop_all (at + n) items (omega (arith, length-append piece (drop n out), length-drop n out));
    }
