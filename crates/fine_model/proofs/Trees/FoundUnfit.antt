-- A node that is unfit over the contents that were found is unfit over all contents, where each one that was found is the node's own.
use Rattle.std.proofs.Common.{◌≡◌, ◌⊎◌, inl, inr, ℕ, zero, suc, ◌-◌, ◌==◌, nat_lt, nat_le, Bool, true, false, true≢false, cond, not, ◌&&◌, List, [], ◌∷◌, length, Option, Some, None, option_map, sym, refl, ap, subst, ◌∙◌}
use Rattle.std.specs.Prelude.{Result, Ok, Err, IsSome, unwrap_or}
use Rattle.fine_model.specs.Types.{NodeId, Node}
use Rattle.fine_model.specs.Types.node
use Rattle.fine_model.specs.Map.{is_below, between}
use Rattle.fine_model.specs.Nodes.{Content}
use Rattle.fine_model.specs.Trees.{Bounds, whole, is_leaf, kids_of, pairs_of, nodes_of, bucket_of}
use Rattle.fine_model.specs.Paths.{is_inner, place_among, bounds_at, seps_of, kid_at, unfit_from, unfit_under, first_unfit, meets, scan_kids, scan_from, unfit_between, first_unfit_between}
use Rattle.fine_model.specs.Damages.{FoundUnfit, SoundlyFit, FindsContent, UnfitLaw}
use Rattle.fine_model.proofs.Trees.FitPaths.{fit_law, scan_law}

module _ (bucket : ℕ) (a b : ℕ → Content) (n : ℕ) (each : (number : ℕ) → (a number ≡ b number) ⊎ (a number ≡ (node.Broken, 0))) (itself : a n ≡ b n) where
  -- what is broken stops a path, and is then the node that is named
  found : (number : ℕ) (f : Content → Option ℕ) → f (node.Broken, 0) ≡ Some number → f (a number) ≡ Some n → a number ≡ b number
  found number f stops is = by (each number)
    where
      by : (a number ≡ b number) ⊎ (a number ≡ (node.Broken, 0)) → a number ≡ b number
      by (inl e) = e
      by (inr broken) = let s : ◌≡◌ {A = Option ℕ} (Some number) (Some n) = sym stops ∙ ap f (sym broken) ∙ is in let same : number ≡ n = cc in subst (λ k. a k ≡ b k) (sym same) itself

  on_path : (height next : ℕ) (key : List ℕ) (bounds : Bounds) (number : ℕ) → unfit_from height bucket a next key bounds number ≡ Some n → unfit_from height bucket b next key bounds number ≡ Some n
  unfolding unfit_from
  on_path zero next key bounds number is =
      let f : Content → Option ℕ = λ c. cond (is_leaf bucket bounds c.0) None (Some number) in subst (λ c. f c ≡ Some n) (found number f refl is) is
  on_path (suc height) next key bounds number is = by (on_path height next key) (is_inner bounds next (b number).0) (subst (λ c. f c ≡ Some n) (found number f refl is) is)
    where
      below : (ℕ → Content) → Content → Option ℕ
      below nodes c = unfit_from height bucket nodes next key (bounds_at bounds (seps_of c.0) (place_among key (seps_of c.0))) (kid_at c.0 (place_among key (seps_of c.0)))

      f : Content → Option ℕ
      f c = cond (is_inner bounds next c.0) (below a c) (Some number)

      by : ((bounds : Bounds) (k : ℕ) → unfit_from height bucket a next key bounds k ≡ Some n → unfit_from height bucket b next key bounds k ≡ Some n)
          → (inner : Bool) → cond inner (below a (b number)) (Some number) ≡ Some n → cond inner (below b (b number)) (Some number) ≡ Some n
      by each true is = each (bounds_at bounds (seps_of (b number).0) (place_among key (seps_of (b number).0))) (kid_at (b number).0 (place_among key (seps_of (b number).0))) is
      by each false is = is

  pub under : (key : List ℕ) → unfit_under bucket a key (a 0).0 ≡ Some n → unfit_under bucket b key (b 0).0 ≡ Some n
  unfolding unfit_under
  under key is = by (b 0).0 (subst (λ c. f c ≡ Some n) (found 0 f refl is) is)
    where
      f : Content → Option ℕ
      f c = unfit_under bucket a key c.0

      by : (head : Node) → unfit_under bucket a key head ≡ Some n → unfit_under bucket b key head ≡ Some n
      by (node.Head root next depth) is = go (nat_lt root next && nat_le 1 depth) is
        where
          go : (good : Bool) → cond good (unfit_from (depth - 1) bucket a next key whole root) (Some 0) ≡ Some n → cond good (unfit_from (depth - 1) bucket b next key whole root) (Some 0) ≡ Some n
          go true is = on_path (depth - 1) next key whole root is
          go false is = is
      by (node.Leaf pairs) is = is
      by (node.Inner seps kids) is = is
      by node.Broken is = is

  -- ---- scans

  -- a scan goes on, or ends at the node that is named
  abbrev Goes : Result ℕ ℕ → Type 0
  Goes (Ok left) = Unit {0}
  Goes (Err number) = number ≡ n

  scanned : (number : ℕ) (f : Content → Result ℕ ℕ) (r : Result ℕ ℕ) → f (node.Broken, 0) ≡ Err number → Goes r → f (a number) ≡ r → a number ≡ b number
  scanned number f r stops goes is = by (each number)
    where
      at : (r : Result ℕ ℕ) → Goes r → ◌≡◌ {A = Result ℕ ℕ} (Err number) r → a number ≡ b number
      at (Ok left) goes e = absurd cc
      at (Err m) goes e = let same : number ≡ m = cc in subst (λ k. a k ≡ b k) (sym (same ∙ goes)) itself

      by : (a number ≡ b number) ⊎ (a number ≡ (node.Broken, 0)) → a number ≡ b number
      by (inl e) = e
      by (inr broken) = at r goes (sym stops ∙ ap f (sym broken) ∙ is)

  -- two ways to scan a child that give the same, where the first goes on or ends at the node
  abbrev Follows : (below_a below_b : Bounds → ℕ → ℕ → Result ℕ ℕ) → Type 0
  Follows below_a below_b = (bounds : Bounds) (kid wanted : ℕ) (r : Result ℕ ℕ) → Goes r → below_a bounds kid wanted ≡ r → below_b bounds kid wanted ≡ r

  module _ (low high : List ℕ) (below_a below_b : Bounds → ℕ → ℕ → Result ℕ ℕ) (follows : Follows below_a below_b) where
    if_met : (met : Bool) (bounds : Bounds) (kid wanted : ℕ) (r : Result ℕ ℕ) → Goes r → cond met (below_a bounds kid wanted) (Ok wanted) ≡ r → cond met (below_b bounds kid wanted) (Ok wanted) ≡ r
    if_met true bounds kid wanted r goes is = follows bounds kid wanted r goes is
    if_met false bounds kid wanted r goes is = is

    over_kids : (bounds : Bounds) (seps : List (List ℕ)) (kids : List ℕ) (wanted : ℕ) (r : Result ℕ ℕ) → Goes r → scan_kids below_a low high bounds seps kids wanted ≡ r → scan_kids below_b low high bounds seps kids wanted ≡ r
    over_kids bounds [] [] wanted r goes is = is
    over_kids bounds (sep ∷ seps) [] wanted r goes is = is
    over_kids bounds [] (kid ∷ kids) wanted r goes is = if_met (meets low high bounds && not (wanted == 0)) bounds kid wanted r goes is
    over_kids bounds (sep ∷ seps) (kid ∷ kids) wanted r goes is =
        by (λ more. over_kids (record { low = Some sep; high = bounds.high }) seps kids more r goes) (cond met (below_a left kid wanted) (Ok wanted)) refl
      where
        left : Bounds
        left = record { low = bounds.low; high = Some sep }

        right : Bounds
        right = record { low = Some sep; high = bounds.high }

        met : Bool
        met = meets low high left && not (wanted == 0)

        by : ((more : ℕ) → scan_kids below_a low high right seps kids more ≡ r → scan_kids below_b low high right seps kids more ≡ r)
            → (x : Result ℕ ℕ) → cond met (below_a left kid wanted) (Ok wanted) ≡ x → scan_kids below_b low high bounds (sep ∷ seps) (kid ∷ kids) wanted ≡ r
        by on (Err m) e =
            let all : scan_kids below_a low high bounds (sep ∷ seps) (kid ∷ kids) wanted ≡ Err m = rw e refl in
            let same : r ≡ Err m = sym is ∙ all in
            let here = if_met met left kid wanted (Err m) (subst Goes same goes) e in rw here (sym same)
        by on (Ok more) e =
            let all : scan_kids below_a low high bounds (sep ∷ seps) (kid ∷ kids) wanted ≡ scan_kids below_a low high right seps kids more = rw e refl in
            let here = if_met met left kid wanted (Ok more) tt e in rw here (on more (sym all ∙ is))

  on_scan : (height next : ℕ) (low high : List ℕ) → Follows (scan_from height bucket a next low high) (scan_from height bucket b next low high)
  unfolding scan_from
  on_scan zero next low high bounds number wanted r goes is =
      let f : Content → Result ℕ ℕ = λ c. cond (is_leaf bucket bounds c.0) (Ok (wanted - length (between low high (pairs_of c.0)))) (Err number) in
      subst (λ c. f c ≡ r) (scanned number f r refl goes is) is
  on_scan (suc height) next low high bounds number wanted r goes is = by (on_scan height next low high) (is_inner bounds next (b number).0) (subst (λ c. f c ≡ r) (scanned number f r refl goes is) is)
    where
      f : Content → Result ℕ ℕ
      f c = cond (is_inner bounds next c.0) (scan_kids (scan_from height bucket a next low high) low high bounds (seps_of c.0) (kids_of c.0) wanted) (Err number)

      by : Follows (scan_from height bucket a next low high) (scan_from height bucket b next low high)
          → (inner : Bool) → cond inner (scan_kids (scan_from height bucket a next low high) low high bounds (seps_of (b number).0) (kids_of (b number).0) wanted) (Err number) ≡ r
          → cond inner (scan_kids (scan_from height bucket b next low high) low high bounds (seps_of (b number).0) (kids_of (b number).0) wanted) (Err number) ≡ r
      by follows true is = over_kids low high (scan_from height bucket a next low high) (scan_from height bucket b next low high) follows bounds (seps_of (b number).0) (kids_of (b number).0) wanted r goes is
      by follows false is = is

  pub of_scan : (low high : List ℕ) (limit : ℕ) → unfit_between bucket a low high limit (a 0).0 ≡ Some n → unfit_between bucket b low high limit (b 0).0 ≡ Some n
  unfolding unfit_between
  of_scan low high limit is = by (b 0).0 (subst (λ c. f c ≡ Some n) (found 0 f refl is) is)
    where
      f : Content → Option ℕ
      f c = unfit_between bucket a low high limit c.0

      by : (head : Node) → unfit_between bucket a low high limit head ≡ Some n → unfit_between bucket b low high limit head ≡ Some n
      by (node.Head root next depth) is = go (nat_lt root next && nat_le 1 depth) (is_below low high && not (limit == 0)) refl refl
        where
          go : (good some : Bool) → (nat_lt root next && nat_le 1 depth) ≡ good → (is_below low high && not (limit == 0)) ≡ some → unfit_between bucket b low high limit (node.Head root next depth) ≡ Some n
          go false some e e' = let all : unfit_between bucket a low high limit (node.Head root next depth) ≡ Some 0 = rw e refl in rw e (sym all ∙ is)
          go true false e e' = let all : unfit_between bucket a low high limit (node.Head root next depth) ≡ None = rw (e, e') refl in absurd (let x : ◌≡◌ {A = Option ℕ} None (Some n) = sym all ∙ is in cc)
          go true true e e' = at (scan_from (depth - 1) bucket a next low high whole root limit) refl
            where
              at : (x : Result ℕ ℕ) → scan_from (depth - 1) bucket a next low high whole root limit ≡ x → unfit_between bucket b low high limit (node.Head root next depth) ≡ Some n
              at (Ok left) s = let all : unfit_between bucket a low high limit (node.Head root next depth) ≡ None = rw (e, e', s) refl in absurd (let x : ◌≡◌ {A = Option ℕ} None (Some n) = sym all ∙ is in cc)
              at (Err m) s =
                  let all : unfit_between bucket a low high limit (node.Head root next depth) ≡ Some m = rw (e, e', s) refl in
                  let same : ◌≡◌ {A = Option ℕ} (Some m) (Some n) = sym all ∙ is in
                  let it : m ≡ n = cc in
                  let s' = on_scan (depth - 1) next low high whole root limit (Err m) it s in rw (e, e', s') same
      by (node.Leaf pairs) is = is
      by (node.Inner seps kids) is = is
      by node.Broken is = is

pub found_unfit : FoundUnfit
found_unfit nodes own id each itself (inl (key, of_bucket, is)) = inl (key, of_bucket, under id.bucket nodes own id.number each itself key is)
found_unfit nodes own id each itself (inr (low, high, limit, is)) = inr (low, high, limit, of_scan id.bucket nodes own id.number each itself low high limit is)

pub soundly_fit : SoundlyFit
soundly_fit rows id within sound (inl (key, of_bucket, is)) =
    let none = fit_law rows key sound in
    let some : first_unfit rows key ≡ Some (record { bucket = bucket_of key; number = id.number }) =
    ap (option_map (λ number. record { bucket = bucket_of key; number = number })) (subst (λ b. unfit_under b (nodes_of rows b) key (nodes_of rows b 0).0 ≡ Some id.number) (sym of_bucket) is) in
    let x : ◌≡◌ {A = Option NodeId} None (Some (record { bucket = bucket_of key; number = id.number })) = sym none ∙ some in cc
soundly_fit rows id within sound (inr (low, high, limit, is)) =
    let none = scan_law rows id.bucket low high limit sound within in
    let some : first_unfit_between rows id.bucket low high limit ≡ Some (record { bucket = id.bucket; number = id.number }) = ap (option_map (λ number. record { bucket = id.bucket; number = number })) is in
    let x : ◌≡◌ {A = Option NodeId} None (Some (record { bucket = id.bucket; number = id.number })) = sym none ∙ some in cc

pub unfit_law : UnfitLaw
unfit_law region_len image parts id contents within each here unfit = record {
  in_bucket = within;
  nodes = nodes;
  each = λ number. by number (contents number) refl;
  itself = itself (contents id.number) refl here;
  unfit = unfit;
}
  where
    nodes : ℕ → Content
    nodes number = unwrap_or (contents number) (node.Broken, 0)

    by : (number : ℕ) (c : Option Content) → contents number ≡ c
        → FindsContent region_len image parts (record { bucket = id.bucket; number = number }) (unwrap_or c (node.Broken, 0)) ⊎ (unwrap_or c (node.Broken, 0) ≡ (node.Broken, 0))
    by number None is = inr refl
    by number (Some c) is = inl (each number c is)

    itself : (c : Option Content) → contents id.number ≡ c → IsSome c → FindsContent region_len image parts id (unwrap_or c (node.Broken, 0))
    itself None is some = absurd (true≢false (sym some))
    itself (Some c) is some = each id.number c is
