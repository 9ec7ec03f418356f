use Rattle.std.proofs.Common.{◌≡◌, ℕ, if◌then◌else◌, true, false, Bool, List, [], ◌∷◌, ◌++◌, Option, OnOk, is_some, nat_eq, sym, ap, subst, ◌∙◌}
use Rattle.std.specs.Map.{lookup}
use Rattle.node_cache.specs.Cache.{Cache, IsSaved, before}
use Rattle.node_cache.specs.Originals.{originals}
use Rattle.node_cache.specs.declared.cached.Cached.{Cached}
use Rattle.node_cache.specs.declared.original.Original.TheVariants as original
use Rattle.node_cache.proofs.Moved.{none_found}
use Rattle.node_cache.proofs.Kept.{is_some_originals, originals_pushed, saving_here, saving_before}
use Rattle.node_cache.specs.Saves.{saved_in}
use Rattle.node_cache.proofs.Saves.{kept_saved, once_distinct}
use Rattle.node_cache.proofs.Bucket.save.Goals as goal

pub returns-clause-saved : goal.returns-clause-saved
returns-clause-saved c =
    let inside = c.self.inside in
    let k = c.args.number in
    let with_saved : List (ℕ × Option Cached) → Cache = λ es. record { bucket = inside.bucket; nodes = inside.nodes.entries; saved = es } in
    let absent : is_some (lookup (nat_eq k) (saved_in inside.saved)) ≡ false = sym c.has.ensures ∙ c.if-has.false in
    let kept = (c.in_ok-original.ensures) ∙ c.get.ensures.value in
    let then_saved : Cache = with_saved (originals (saved_in inside.saved) ++ (k, lookup (nat_eq k) inside.nodes.entries) ∷ []) in
    rw (← c.self.view_is) (
    ap with_saved (ap originals (c.in_ok-push.ensures).ok
    ∙ originals_pushed (saved_in inside.saved) k (original.Whole c.in_ok-original.original)
    ∙ ap (λ o. originals (saved_in inside.saved) ++ (k, o) ∷ []) kept)
    ∙ ap (λ (b : Bool). if b then with_saved (originals (saved_in inside.saved)) else then_saved) (sym (is_some_originals (nat_eq k) (saved_in inside.saved) ∙ absent))
    )

pub returns-clause-here : goal.returns-clause-here
returns-clause-here c = subst (λ b. IsSaved b c.args.number) (sym (returns-clause-saved c)) (saving_here c.args.self.now c.args.number)

pub returns-clause-before : goal.returns-clause-before
returns-clause-before c = λ n. ap (λ b. before b n) (returns-clause-saved c) ∙ saving_before c.args.self.now c.args.number n

pub returns-then-has-clause-saved : goal.returns-then-has-clause-saved
returns-then-has-clause-saved c =
    let inside = c.self.inside in
    let k = c.args.number in
    let with_saved : List (ℕ × Option Cached) → Cache = λ es. record { bucket = inside.bucket; nodes = inside.nodes.entries; saved = es } in
    let there : is_some (lookup (nat_eq k) (saved_in inside.saved)) ≡ true = sym c.has.ensures ∙ c.if-has.true in
    let then_saved : Cache = with_saved (originals (saved_in inside.saved) ++ (k, lookup (nat_eq k) inside.nodes.entries) ∷ []) in
    rw (← c.self.view_is) (ap (λ (b : Bool). if b then with_saved (originals (saved_in inside.saved)) else then_saved) (sym (is_some_originals (nat_eq k) (saved_in inside.saved) ∙ there)))

pub returns-then-has-clause-here : goal.returns-then-has-clause-here
returns-then-has-clause-here c =
    let es = (saved_in c.self.inside.saved) in
    rw (← c.self.view_is) (is_some_originals (nat_eq c.args.number) es ∙ sym c.has.ensures ∙ c.if-has.true)

pub invariant_of-self-2 : goal.invariant_of-self-2
invariant_of-self-2 c =
    let inside = c.self.inside in
    let k = c.args.number in
    let none = none_found _ (sym c.has.ensures ∙ c.if-has.false) in
    let kept = (c.in_ok-original.ensures) ∙ c.get.ensures.value in
    let saved = saved_in inside.saved in
    let pushed = subst (λ o. OnOk c.push.result (saved_in c.push.new.self ≡ saved ++ (k, original.Whole o) ∷ [])) kept c.push.ensures.ok in
    record {
      kept = kept_saved k inside.nodes.entries saved (saved_in c.push.new.self) c.push.result c.self.invariant.kept none pushed c.push.ensures.err (once_distinct c.push.new.self c.push.ensures.once);
      once = c.push.ensures.once;
      marked = c.self.invariant.marked;
    }
