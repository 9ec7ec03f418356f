-- Parts that come from those of an earlier chain: where none was merged, where two neighbours were, and from one chain to the next.
use Rattle.std.proofs.Common.{◌≡◌, ◌∙◌, ℕ, zero, suc, ◌≤◌, List, [], ◌∷◌, ◌++◌, length, inl, inr, Option, refl, sym, ap, subst, arith, append-nil, append_assoc, length-append}
use Rattle.std.specs.Prelude.{Contains, fold}
use Rattle.std.proofs.lemmas.List.Elements.{Contains-append_right}
use Rattle.std.proofs.lemmas.List.Sums.{fold-append}
use Rattle.fine_model.specs.declared.Part.{Part}
use Rattle.fine_model.specs.declared.Row.{Row}
use Rattle.fine_model.specs.Chain.{chain_end, regions_of}
use Rattle.fine_model.specs.Regions.{Image}
use Rattle.fine_model.specs.Views.{SameSeen, TellsRowsOf}
use Rattle.fine_model.proofs.Chain.Owning.{tells_alike}
use Rattle.epoch_room.proofs.Views.Viewing.{all_parts}
use Rattle.room_merges.proofs.Living.{seen_then}
use Rattle.room_steps.proofs.Stepping.{told_then}
use Rattle.log_commands.specs.Origins.{AreFrom, ComesFrom, IsMadeOf, chain_start}

-- ---- what is told of parts

-- a part that has the bytes that it had tells what it told
pub part_alike : (region_len : ℕ) (was now : Option Image) (p : Part) (rows : List Row) → SameSeen (regions_of p) was now → TellsRowsOf was region_len (p ∷ []) rows → TellsRowsOf now region_len (p ∷ []) rows
part_alike region_len was now p rows same tells =
    tells_alike (regions_of p ++ []) was now region_len (p ∷ []) rows (subst (λ rs. SameSeen rs was now) (sym (append-nil (regions_of p))) same) (all_parts (p ∷ [])) tells

-- ---- no merge, and one

module _ (region_len : ℕ) (was now : Option Image) where
  pub from_same : (parts : List Part) → ((p : Part) → Contains parts p → SameSeen (regions_of p) was now) → AreFrom region_len was now parts parts
  from_same [] same = refl
  from_same (p ∷ parts) same = (p ∷ [], parts, refl, inl (refl, same p (0, omega arith, refl)), from_same parts (λ q there. same q (Contains-append_right (p ∷ []) parts q there)))

  pub from_both : (a b c d : List Part) → AreFrom region_len was now a b → AreFrom region_len was now c d → AreFrom region_len was now (a ++ c) (b ++ d)
  from_both a [] c d none more = subst (λ xs. AreFrom region_len was now (xs ++ c) d) (sym none) more
  from_both a (p ∷ b) c d (own, rest, is, comes, later) more = (own, rest ++ c, ap (λ xs. xs ++ c) is ∙ append_assoc own rest c, comes, from_both rest b c d later more)

  pub from_merge : (before : List Part) (older newer p : Part) (after : List Part) → ((q : Part) → Contains before q → SameSeen (regions_of q) was now) → ((q : Part) → Contains after q → SameSeen (regions_of q) was now)
      → IsMadeOf region_len was now (older ∷ newer ∷ []) p → AreFrom region_len was now (before ++ older ∷ newer ∷ after) (before ++ p ∷ after)
  from_merge before older newer p after front back made =
      from_both before before (older ∷ newer ∷ after) (p ∷ after) (from_same before front) (older ∷ newer ∷ [], after, refl, inr made, from_same after back)

  -- ---- what such parts have

  comes_some : (own : List Part) (p : Part) → ComesFrom region_len was now own p → 1 ≤ length own
  comes_some own p (inl stays) = let e = ap length stays.0 in omega (arith, e)
  comes_some own p (inr made) = let m = made.several in omega (arith, m)

  pub from_long : (a b : List Part) → AreFrom region_len was now a b → length b ≤ length a
  from_long a [] none = omega arith
  from_long a (p ∷ b) (own, rest, is, comes, later) =
      let e = ap length is in let l = length-append own rest in let some = comes_some own p comes in let more = from_long rest b later in omega (arith, e, l, some, more)

  pub from_start : (a b : List Part) → AreFrom region_len was now a b → chain_start b ≡ chain_start a
  from_start a [] none = ap chain_start (sym none)
  from_start a (p ∷ b) (own, rest, is, comes, later) = by own comes ∙ ap chain_start (sym is)
    where
      by : (xs : List Part) → ComesFrom region_len was now xs p → p.header.range.first ≡ chain_start (xs ++ rest)
      by [] c = absurd (let some = comes_some [] p c in omega (arith, some))
      by (x ∷ xs) (inl stays) = ap chain_start (sym stays.0)
      by (x ∷ xs) (inr made) = made.first

  -- the last epoch of parts, or another
  abbrev end_or : ℕ → List Part → ℕ
  end_or e parts = fold (λ e (p : Part). p.header.range.last) e parts

  own_end : (e : ℕ) (own : List Part) (p : Part) → ComesFrom region_len was now own p → end_or e own ≡ p.header.range.last
  own_end e [] p c = absurd (let some = comes_some [] p c in omega (arith, some))
  own_end e (x ∷ xs) p (inl stays) = ap (end_or e) stays.0
  own_end e (x ∷ xs) p (inr made) = sym made.last

  end_from : (e : ℕ) (a b : List Part) → AreFrom region_len was now a b → end_or e b ≡ end_or e a
  end_from e a [] none = ap (end_or e) (sym none)
  end_from e a (p ∷ b) (own, rest, is, comes, later) =
      end_from p.header.range.last rest b later ∙ ap (λ n. end_or n rest) (sym (own_end e own p comes)) ∙ sym (fold-append (λ e (q : Part). q.header.range.last) e own rest) ∙ ap (end_or e) (sym is)

  pub from_end : (a b : List Part) → AreFrom region_len was now a b → chain_end b ≡ chain_end a
  from_end a b from = end_from 0 a b from

  pub from_parts : (front back a : List Part) → AreFrom region_len was now a (front ++ back) → (x y : List Part) × (a ≡ x ++ y) × AreFrom region_len was now x front × AreFrom region_len was now y back
  from_parts [] back a from = ([], a, refl, refl, from)
  from_parts (p ∷ front) back a (own, rest, is, comes, later) =
      let s = from_parts front back rest later in
      (own ++ s.0, s.1, is ∙ ap (λ ps. own ++ ps) s.2 ∙ sym (append_assoc own s.0 s.1), (own, s.0, refl, comes, s.3), s.4)

  -- where one of them comes from
  pub from_part : (a b : List Part) (p : Part) → AreFrom region_len was now a b → Contains b p → (front own rest : List Part) × (a ≡ front ++ (own ++ rest)) × ComesFrom region_len was now own p
  from_part a [] p from (k, low, is) = absurd (omega (arith, low))
  from_part a (q ∷ b) p (own, rest, e, comes, later) (zero, low, is) = ([], own, rest, e, subst (ComesFrom region_len was now own) is comes)
  from_part a (q ∷ b) p (own, rest, e, comes, later) (suc k, low, is) =
      let s = from_part rest b p later (k, omega (arith, low), is) in
      (own ++ s.0, s.1, s.2, e ∙ ap (λ ps. own ++ ps) s.3 ∙ sym (append_assoc own s.0 (s.1 ++ s.2)), s.4)

-- ---- one chain after another

module _ (region_len : ℕ) (was mid now : Option Image) (same : SameSeen [] was mid) where
  comes_then : (a own : List Part) (p : Part) → AreFrom region_len was mid a own → ComesFrom region_len mid now own p → ComesFrom region_len was now a p
  comes_then a own p from (inl stays) = by (subst (AreFrom region_len was mid a) stays.0 from)
    where
      by : AreFrom region_len was mid a (p ∷ []) → ComesFrom region_len was now a p
      by (first, rest, is, comes, none) =
          let all : a ≡ first = is ∙ ap (λ ps. first ++ ps) none ∙ append-nil first in
          subst (λ ps. ComesFrom region_len was now ps p) (sym all) (on first comes)
        where
          on : (xs : List Part) → ComesFrom region_len was mid xs p → ComesFrom region_len was now xs p
          on xs (inl before) = inl (before.0, seen_then (regions_of p) was mid now before.1 stays.1)
          on xs (inr made) = inr (record {
            several = made.several;
            first = made.first;
            last = made.last;
            good = λ image is. let m = made.good image is in (m.0, part_alike region_len mid now p m.0 stays.1 m.1);
          })
  comes_then a own p from (inr made) = inr (record {
    several = let l = from_long region_len was mid a own from in let s = made.several in omega (arith, l, s);
    first = made.first ∙ from_start region_len was mid a own from;
    last = made.last ∙ from_end region_len was mid a own from;
    good = λ image is. let shown = told_then was mid image same is in made.good shown.0 shown.1;
  })

  pub from_then : (a b c : List Part) → AreFrom region_len was mid a b → AreFrom region_len mid now b c → AreFrom region_len was now a c
  from_then a b [] first none = subst (AreFrom region_len was mid a) none first
  from_then a b (p ∷ c) first (own, rest, is, comes, later) =
      let s = from_parts region_len was mid own rest a (subst (AreFrom region_len was mid a) is first) in
      (s.0, s.1, s.2, comes_then s.0 own p s.3 comes, from_then s.1 rest c s.4 later)
