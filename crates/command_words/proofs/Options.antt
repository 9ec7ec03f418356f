-- The options of `run`: as the library has them, as texts, and as numbers.
use Rattle.std.proofs.Common.{◌≡◌, ℕ, if◌then◌else◌, Bool, true, false, ◌&&◌, ◌||◌, List, [], ◌∷◌, ◌++◌, Option, Some, None, is_some, option_map, option_and_then, bytes_eq, codes, slice_get, refl, sym, ap, ◌∙◌, subst, append-nil}
use Rattle.std.proofs.lemmas.Bool.{false≢true}
use Rattle.std.proofs.lemmas.Slice.Eq.{bytes_eq-Decides}
use Rattle.std.proofs.lemmas.List.Folds.{list_any-append}
use Rattle.clap.specs.declared.error.kind.ErrorKind.TheVariants as kind
use Rattle.clap.specs.declared.parser.matches.ValueSource.TheVariants.{CommandLine}
use Rattle.clap.specs.Walk.{Held, more_values, reading_by, with_values, without, Row, Rule, Text, at_row, arg_by_long, settled, has_row, first_of}
use Rattle.clap.specs.Simple.{filled, filled_from}
use Rattle.clap.specs.Kinds.{Kinds, or_else}
use Rattle.clap.specs.Faults.{settle_fault}
use Rattle.fine_model.specs.Script.{natural_of}
use Rattle.fine_model.specs.Words.{Given, with_option}
use Rattle.command_words.specs.Program.{all_given, option_named, option_of, run_shape}

-- the options of `run`, as they are built
abbrev pub run_rules : List Rule
run_rules = filled_from 1 run_shape.rules

-- one of the three options
pub data Which : Type 0 where
  the_group : Which
  the_tries : Which
  the_keep : Which

abbrev pub name_of : Which → Text
name_of the_group = codes "group"
name_of the_tries = codes "tries"
name_of the_keep = codes "keep"

abbrev pub rule_for : Which → Rule
rule_for k = filled (option_named (name_of k))

-- the option of a name
abbrev pub which_of : Text → Option Which
which_of n = if bytes_eq (codes "group") n then Some the_group else (if bytes_eq (codes "tries") n then Some the_tries else (if bytes_eq (codes "keep") n then Some the_keep else None))

pub by_long : (n : Text) → arg_by_long run_rules n ≡ option_map rule_for (which_of n)
by_long n = go (bytes_eq (codes "group") n) (bytes_eq (codes "tries") n) (bytes_eq (codes "keep") n) refl refl refl
  where
    go : (a b c : Bool) → bytes_eq (codes "group") n ≡ a → bytes_eq (codes "tries") n ≡ b → bytes_eq (codes "keep") n ≡ c
        → arg_by_long run_rules n ≡ option_map rule_for (which_of n)
    go true b c e f g = rw e refl
    go false true c e f g = rw (e, f) refl
    go false false true e f g = rw (e, f, g) refl
    go false false false e f g = rw (e, f, g) refl

-- ---- the definitions' side

abbrev pub given_in : Which → Given → Option ℕ
given_in the_group g = g.group
given_in the_tries g = g.tries
given_in the_keep g = g.keep

abbrev pub put_in : Which → Given → ℕ → Given
put_in the_group g n = record { group = Some n; tries = g.tries; keep = g.keep }
put_in the_tries g n = record { group = g.group; tries = Some n; keep = g.keep }
put_in the_keep g n = record { group = g.group; tries = g.tries; keep = Some n }

abbrev pub number : Which → Text → Option ℕ
number the_group v = natural_of 1 100000 v
number the_tries v = natural_of 1 1000000 v
number the_keep v = natural_of 1 256 v

abbrev pub with_which : Option Which → Given → Text → Option Given
with_which None g v = None
with_which (Some k) g v = if is_some (given_in k g) then None else option_map (put_in k g) (number k v)

pub not_sym : (a b : Text) → bytes_eq a b ≡ false → bytes_eq b a ≡ false
not_sym a b e = go (bytes_eq b a) refl
  where
    go : (t : Bool) → bytes_eq b a ≡ t → bytes_eq b a ≡ false
    go false h = h
    go true h = absurd (false≢true (sym e ∙ (bytes_eq-Decides a b).1 (sym ((bytes_eq-Decides b a).0 h))))

with_named : (k : Which) (g : Given) (v : Text) → with_option g (45 ∷ 45 ∷ name_of k) v ≡ with_which (Some k) g v
with_named the_group g v = go g.group refl
  where
    go : (o : Option ℕ) → g.group ≡ o → with_option g (codes "--group") v ≡ with_which (Some the_group) g v
    go None e = rw e refl
    go (Some n) e = rw e refl
with_named the_tries g v = go g.tries refl
  where
    go : (o : Option ℕ) → g.tries ≡ o → with_option g (codes "--tries") v ≡ with_which (Some the_tries) g v
    go None e = rw e refl
    go (Some n) e = rw e refl
with_named the_keep g v = go g.keep refl
  where
    go : (o : Option ℕ) → g.keep ≡ o → with_option g (codes "--keep") v ≡ with_which (Some the_keep) g v
    go None e = rw e refl
    go (Some n) e = rw e refl

pub with_dashed : (n : Text) (g : Given) (v : Text) → with_option g (45 ∷ 45 ∷ n) v ≡ with_which (which_of n) g v
with_dashed n g v = go (bytes_eq (codes "group") n) (bytes_eq (codes "tries") n) (bytes_eq (codes "keep") n) refl refl refl
  where
    go : (a b c : Bool) → bytes_eq (codes "group") n ≡ a → bytes_eq (codes "tries") n ≡ b → bytes_eq (codes "keep") n ≡ c
        → with_option g (45 ∷ 45 ∷ n) v ≡ with_which (which_of n) g v
    go true b c e f h = subst (λ n. with_option g (45 ∷ 45 ∷ n) v ≡ with_which (which_of n) g v) ((bytes_eq-Decides (codes "group") n).0 e) (with_named the_group g v)
    go false true c e f h = subst (λ n. with_option g (45 ∷ 45 ∷ n) v ≡ with_which (which_of n) g v) ((bytes_eq-Decides (codes "tries") n).0 f) (with_named the_tries g v)
    go false false true e f h = subst (λ n. with_option g (45 ∷ 45 ∷ n) v ≡ with_which (which_of n) g v) ((bytes_eq-Decides (codes "keep") n).0 h) (with_named the_keep g v)
    go false false false e f h = rw (e, f, h, not_sym (codes "group") n e, not_sym (codes "tries") n f, not_sym (codes "keep") n h) refl

-- ---- texts that were given

abbrev pub Texts : Type 0
Texts = Which → Option Text

abbrev pub no_texts : Texts
no_texts = λ _. None

abbrev is_same : Which → Which → Bool
is_same k j = bytes_eq (name_of k) (name_of j)

abbrev pub put_text : Which → Texts → Text → Texts
put_text k t v = λ j. if is_same k j then Some v else t j

abbrev pub numbers : Texts → Option Given
numbers t = all_given (option_of 100000 (t the_group)) (option_of 1000000 (t the_tries)) (option_of 256 (t the_keep))

abbrev next : Which → Text → Given → Option Given
next k v g = with_which (Some k) g v

put_group : (b c : Option (Option ℕ)) (m : Option ℕ)
    → option_and_then (λ g. if is_some g.group then None else option_map (put_in the_group g) m) (all_given (Some None) b c) ≡ all_given (option_map (λ n. Some n) m) b c
put_group None c None = refl
put_group None c (Some n) = refl
put_group (Some b) None None = refl
put_group (Some b) None (Some n) = refl
put_group (Some b) (Some c) None = refl
put_group (Some b) (Some c) (Some n) = refl

put_tries : (a c : Option (Option ℕ)) (m : Option ℕ)
    → option_and_then (λ g. if is_some g.tries then None else option_map (put_in the_tries g) m) (all_given a (Some None) c) ≡ all_given a (option_map (λ n. Some n) m) c
put_tries None c m = refl
put_tries (Some a) None None = refl
put_tries (Some a) None (Some n) = refl
put_tries (Some a) (Some c) None = refl
put_tries (Some a) (Some c) (Some n) = refl

put_keep : (a b : Option (Option ℕ)) (m : Option ℕ)
    → option_and_then (λ g. if is_some g.keep then None else option_map (put_in the_keep g) m) (all_given a b (Some None)) ≡ all_given a b (option_map (λ n. Some n) m)
put_keep None b m = refl
put_keep (Some a) None m = refl
put_keep (Some a) (Some b) None = refl
put_keep (Some a) (Some b) (Some n) = refl

pub put_numbers : (k : Which) (t : Texts) (v : Text) → t k ≡ None → option_and_then (next k v) (numbers t) ≡ numbers (put_text k t v)
put_numbers the_group t v e = rw e (put_group (option_of 1000000 (t the_tries)) (option_of 256 (t the_keep)) (number the_group v))
put_numbers the_tries t v e = rw e (put_tries (option_of 100000 (t the_group)) (option_of 256 (t the_keep)) (number the_tries v))
put_numbers the_keep t v e = rw e (put_keep (option_of 100000 (t the_group)) (option_of 1000000 (t the_tries)) (number the_keep v))

taken_group : (m : Option ℕ) (b c : Option (Option ℕ)) (o : Option ℕ)
    → option_and_then (λ g. if is_some g.group then None else option_map (put_in the_group g) o) (all_given (option_map (λ n. Some n) m) b c) ≡ None
taken_group None b c o = refl
taken_group (Some m) None c o = refl
taken_group (Some m) (Some b) None o = refl
taken_group (Some m) (Some b) (Some c) o = refl

taken_tries : (m : Option ℕ) (a c : Option (Option ℕ)) (o : Option ℕ)
    → option_and_then (λ g. if is_some g.tries then None else option_map (put_in the_tries g) o) (all_given a (option_map (λ n. Some n) m) c) ≡ None
taken_tries m None c o = refl
taken_tries None (Some a) c o = refl
taken_tries (Some m) (Some a) None o = refl
taken_tries (Some m) (Some a) (Some c) o = refl

taken_keep : (m : Option ℕ) (a b : Option (Option ℕ)) (o : Option ℕ)
    → option_and_then (λ g. if is_some g.keep then None else option_map (put_in the_keep g) o) (all_given a b (option_map (λ n. Some n) m)) ≡ None
taken_keep m None b o = refl
taken_keep m (Some a) None o = refl
taken_keep None (Some a) (Some b) o = refl
taken_keep (Some m) (Some a) (Some b) o = refl

pub put_taken : (k : Which) (t : Texts) (u v : Text) → t k ≡ Some u → option_and_then (next k v) (numbers t) ≡ None
put_taken the_group t u v e = rw e (taken_group (number the_group u) (option_of 1000000 (t the_tries)) (option_of 256 (t the_keep)) (number the_group v))
put_taken the_tries t u v e = rw e (taken_tries (number the_tries u) (option_of 100000 (t the_group)) (option_of 256 (t the_keep)) (number the_tries v))
put_taken the_keep t u v e = rw e (taken_keep (number the_keep u) (option_of 100000 (t the_group)) (option_of 1000000 (t the_tries)) (number the_keep v))

-- ---- rows

at_row_missing : (id : Text) (change : Row → List Row) (missing rows : List Row) → has_row id rows ≡ false → at_row id change missing rows ≡ rows ++ missing
at_row_missing id change missing [] e = refl
at_row_missing id change missing (r ∷ rs) e = go (bytes_eq r.id id) refl (at_row_missing id change missing rs)
  where
    go : (b : Bool) → bytes_eq r.id id ≡ b → (has_row id rs ≡ false → at_row id change missing rs ≡ rs ++ missing) → at_row id change missing (r ∷ rs) ≡ (r ∷ rs) ++ missing
    go true f next = absurd (let bad : true ≡ false = rw f at e in cc)
    go false f next = let rest : has_row id rs ≡ false = rw f at e in rw f (ap (λ xs. r ∷ xs) (next rest))

first_append : (id : Text) (rows : List Row) (r : Row)
    → first_of id (rows ++ r ∷ []) ≡ (if has_row id rows then first_of id rows else (if bytes_eq r.id id then slice_get r.values 0 else None))
first_append id [] r = go (bytes_eq r.id id) refl
  where
    go : (b : Bool) → bytes_eq r.id id ≡ b → first_of id (r ∷ []) ≡ (if bytes_eq r.id id then slice_get r.values 0 else None)
    go true f = rw f refl
    go false f = rw f refl
first_append id (x ∷ rows) r = go (bytes_eq x.id id) refl (first_append id rows r)
  where
    go : (b : Bool) → bytes_eq x.id id ≡ b
        → first_of id (rows ++ r ∷ []) ≡ (if has_row id rows then first_of id rows else (if bytes_eq r.id id then slice_get r.values 0 else None))
        → first_of id ((x ∷ rows) ++ r ∷ []) ≡ (if has_row id (x ∷ rows) then first_of id (x ∷ rows) else (if bytes_eq r.id id then slice_get r.values 0 else None))
    go true f next = rw f refl
    go false f next = rw f next

-- the rows are those of these texts
pub record Holds (rows : List Row) (t : Texts) : Type 0 where
  pub has : (k : Which) → has_row (name_of k) rows ≡ is_some (t k)
  pub first : (k : Which) → first_of (name_of k) rows ≡ t k

or_true : (x b : Bool) → b ≡ true → (x || b) ≡ true
or_true true b e = refl
or_true false b e = e

or_false : (x b : Bool) → b ≡ false → (x || b) ≡ x
or_false true b e = refl
or_false false b e = e

-- the texts after one more, by whether it is this one
put_same : (k j : Which) (t : Texts) (v : Text) → is_same k j ≡ true → put_text k t v j ≡ Some v
put_same k j t v e = rw e refl

put_other : (k j : Which) (t : Texts) (v : Text) → is_same k j ≡ false → put_text k t v j ≡ t j
put_other k j t v e = rw e refl

same_is : (k j : Which) → is_same k j ≡ true → k ≡ j
same_is the_group the_group e = refl
same_is the_group the_tries e = absurd cc
same_is the_group the_keep e = absurd cc
same_is the_tries the_group e = absurd cc
same_is the_tries the_tries e = refl
same_is the_tries the_keep e = absurd cc
same_is the_keep the_group e = absurd cc
same_is the_keep the_tries e = absurd cc
same_is the_keep the_keep e = refl

none_of : (o : Option Text) → is_some o ≡ false → None ≡ o
none_of None e = refl
none_of (Some v) e = absurd cc

pub holds_put : (k : Which) (rows : List Row) (r : Row) (t : Texts) (v : Text) → Holds rows t → t k ≡ None → r.id ≡ name_of k → r.values ≡ v ∷ []
    → Holds (rows ++ r ∷ []) (put_text k t v)
holds_put k rows r t v h none id values = record { has = λ j. has_ j (is_same k j) refl; first = λ j. first_ j (is_same k j) refl }
  where
    has_ : (j : Which) (b : Bool) → is_same k j ≡ b → has_row (name_of j) (rows ++ r ∷ []) ≡ is_some (put_text k t v j)
    has_ j true e =
        list_any-append (λ x. bytes_eq x.id (name_of j)) rows (r ∷ []) ∙ or_true (has_row (name_of j) rows) _ (rw (id, e) refl) ∙ ap is_some (sym (put_same k j t v e))
    has_ j false e =
        list_any-append (λ x. bytes_eq x.id (name_of j)) rows (r ∷ []) ∙ or_false (has_row (name_of j) rows) _ (rw (id, e) refl) ∙ h.has j ∙ ap is_some (sym (put_other k j t v e))

    first_ : (j : Which) (b : Bool) → is_same k j ≡ b → first_of (name_of j) (rows ++ r ∷ []) ≡ put_text k t v j
    first_ j true e =
        let gone : has_row (name_of j) rows ≡ false = h.has j ∙ ap (λ i. is_some (t i)) (sym (same_is k j e)) ∙ ap is_some none in
        first_append (name_of j) rows r ∙ rw (gone, id, e, values) refl
    first_ j false e = first_append (name_of j) rows r ∙ by (has_row (name_of j) rows) refl ∙ sym (put_other k j t v e)
      where
        by : (b : Bool) → has_row (name_of j) rows ≡ b
            → (if has_row (name_of j) rows then first_of (name_of j) rows else (if bytes_eq r.id (name_of j) then slice_get r.values 0 else None)) ≡ t j
        by true f = rw f (h.first j)
        by false f = rw (f, id, e) (none_of (t j) (sym (h.has j) ∙ f))

-- ---- the option that was given last, and is not settled yet

abbrev pub held_with : List Row → Option (Which × Text) → Held
held_with rows None = record { rows = rows; pending = None; skip = 0 }
held_with rows (Some p) = record { rows = rows; pending = Some (name_of p.0, p.1 ∷ []); skip = 0 }

abbrev pub texts_with : Texts → Option (Which × Text) → Option Texts
texts_with t None = Some t
texts_with t (Some p) = if is_some (t p.0) then None else Some (put_text p.0 t p.1)

-- it is settled, or it was given before
abbrev pub Settles : List Row → Option (Which × Text) → Option Texts → Type 0
Settles rows q None = settle_fault run_rules false (held_with rows q) ≡ [] → ⊥
Settles rows q (Some t) = (settle_fault run_rules false (held_with rows q) ≡ []) × Holds (settled run_rules (held_with rows q)).rows t

abbrev pub conflict : Bool → Kinds
conflict b = if b && true then kind.ArgumentConflict ∷ [] else []

settles_named : (k : Which) (rows : List Row) (v : Text) → settle_fault run_rules false (held_with rows (Some (k, v))) ≡ or_else (conflict (has_row (name_of k) rows)) []
settles_named the_group rows v = refl
settles_named the_tries rows v = refl
settles_named the_keep rows v = refl

abbrev pub row_for : Which → Text → Row
row_for k v = record { id = name_of k; values = v ∷ []; count = None; source = Some CommandLine; reading = reading_by (rule_for k) }

pub settled_named : (k : Which) (rows : List Row) (v : Text)
    → (settled run_rules (held_with rows (Some (k, v)))).rows ≡ with_values (name_of k) (reading_by (rule_for k)) CommandLine (v ∷ []) (without (name_of k) rows)
settled_named the_group rows v = refl
settled_named the_tries rows v = refl
settled_named the_keep rows v = refl

pub settled_rows_are : (k : Which) (rows : List Row) (v : Text) → has_row (name_of k) rows ≡ false
    → (settled run_rules (held_with rows (Some (k, v)))).rows ≡ rows ++ row_for k v ∷ []
settled_rows_are k rows v e =
    let gone : without (name_of k) rows ≡ rows = at_row_missing (name_of k) (λ _. []) [] rows e ∙ append-nil rows in
    settled_named k rows v ∙ ap (with_values (name_of k) (reading_by (rule_for k)) CommandLine (v ∷ [])) gone
    ∙ at_row_missing (name_of k) (more_values CommandLine (v ∷ [])) (row_for k v ∷ []) rows e

pub settles : (rows : List Row) (t : Texts) (q : Option (Which × Text)) → Holds rows t → Settles rows q (texts_with t q)
settles rows t None h = (refl, h)
settles rows t (Some p) h = go (t p.0) refl
  where
    go : (o : Option Text) → t p.0 ≡ o → Settles rows (Some p) (texts_with t (Some p))
    go None e =
        let free : has_row (name_of p.0) rows ≡ false = h.has p.0 ∙ ap is_some e in
        rw e (
          settles_named p.0 rows p.1 ∙ ap (λ b. or_else (conflict b) []) free,
          subst (λ xs. Holds xs (put_text p.0 t p.1)) (sym (settled_rows_are p.0 rows p.1 free)) (holds_put p.0 rows (row_for p.0 p.1) t p.1 h e refl refl),
        )
    go (Some u) e =
        let taken : has_row (name_of p.0) rows ≡ true = h.has p.0 ∙ ap is_some e in
        rw e (λ none. let bad : or_else (conflict true) [] ≡ [] = sym (ap (λ b. or_else (conflict b) []) taken) ∙ sym (settles_named p.0 rows p.1) ∙ none in absurd cc)
