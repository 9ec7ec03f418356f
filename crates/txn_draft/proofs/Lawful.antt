-- The laws of drafts.
use Rattle.std.proofs.Common.{◌≡◌, ◌≢◌, ℕ, nat_eq, List, [], ◌∷◌, ◌++◌, ◌≤◌, Option, refl, sym, ap, subst, ◌∙◌, append-nil, append_assoc, arith}
use Rattle.std.specs.Prelude.{IfSome, unwrap_or}
use Rattle.std.specs.Map.{lookup}
use Rattle.std.specs.List.{AllByRecursion}
use Rattle.fine_model.specs.declared.Row.{Row}
use Rattle.fine_model.specs.Laws.{AreSmall}
use Rattle.fine_model.specs.Map.{map_after}
use Rattle.fine_model.specs.Nodes.{Content, replay, rows_of}
use Rattle.fine_model.specs.Pushed.{all_pushed}
use Rattle.fine_model.specs.Store.{replies_to, writes_of}
use Rattle.fine_model.specs.Trees.{IsSound, map_of, nodes_of}
use Rattle.fine_model.proofs.Histories.Legal.{legal_map}
use Rattle.fine_model.proofs.Trees.NodeLaws.{content-append, rows_of-append}
use Rattle.fine_model.proofs.Ordered.Order.{all_map}
use Rattle.fine_model.proofs.Ordered.Sets.{all_append}
use Rattle.node_cache.specs.declared.cached.Cached.{Cached}
use Rattle.node_cache.specs.Cache.{Cache, cached, before, IsSaved}
use Rattle.node_cache.specs.Given.{IsCached}
use Rattle.btree_nodes.specs.Trees.{node_at}
use Rattle.txn_draft.specs.Laws.{AreElsewhere, BlankLaw, NextLaw, TakenLaw, OthersLaw, BetweenLaw, RestoredLaw, UsedLaw}

pub blank_law : BlankLaw
unfolding replies_to writes_of all_pushed map_after
blank_law lane turn rows small sound = record {
  replies = refl;
  writes = refl;
  is_pushed = refl;
  leaves = record {
    has_map = record { sound = subst IsSound (sym (append-nil rows)) sound; map = ap map_of (append-nil rows) };
    small = subst AreSmall (sym (append-nil rows)) small;
  };
}

pub next_law : NextLaw
next_law first history d epoch small sound legal epochs a =
    let same = (legal_map first history small sound legal).has_map.map in
    record {
      replies = a.replies ∙ ap (λ m. replies_to m d.calls) same;
      writes = a.writes ∙ ap (λ m. writes_of m d.calls) same;
      rows = a.is_pushed;
      epoch = epochs;
    }

pub taken_law : TakenLaw
taken_law low b resting = record {
  undoes = record {
    bucket = refl;
    stays = λ n here. same n;
    loaded = λ n none. subst (λ (o : Option Cached). IfSome o (λ kept. low ≤ kept.epoch)) (sym (same n ∙ none)) tt;
  };
  there = λ n here. here;
  named = tt;
}
  where
    same : (n : ℕ) → before b n ≡ cached b n
    same n = ap (λ saved. unwrap_or (lookup (nat_eq n) saved) (cached b n)) resting

-- a node of one bucket has no rows of others
pub none_here : (b : Cache) (n : ℕ) (own : List Row) → AllByRecursion (λ row. row.node.bucket ≢ b.bucket) own → rows_of (node_at b n) own ≡ []
none_here b n [] h = refl
none_here b n (row ∷ rows) h = grind (arith, none_here b n rows h.1, h.0)

-- nor do they change it
beside : (b : Cache) (rows own : List Row) → AreElsewhere b own → (n : ℕ) → nodes_of (rows ++ own) b.bucket n ≡ nodes_of rows b.bucket n
unfolding replay
beside b rows own other n = content-append rows own (node_at b n) ∙ still n
  where
    still : (n : ℕ) → replay (nodes_of rows b.bucket n) (rows_of (node_at b n) own) ≡ nodes_of rows b.bucket n
    still n = ap (replay (nodes_of rows b.bucket n)) (none_here b n own other)

pub others_law : OthersLaw
others_law b rows log own holds other = record {
  same = λ n here. holds.same n here ∙ sym (ap (λ rs. nodes_of rs b.bucket n) (sym (append_assoc rows log own)) ∙ beside b (rows ++ log) own other n);
  others = λ n none. rows_of-append (node_at b n) log own ∙ (λ i. holds.others n none i ++ none_here b n own other i);
  restores = holds.restores;
}

pub restored_law : RestoredLaw
restored_law b rows own restores other = record {
  each = λ n. subst (λ (there : Content). IfSome (before b n) (λ kept. (kept.node, kept.version) ≡ there)) (sym (beside b rows own other n)) (restores.each n);
}

pub between_law : BetweenLaw
between_law b rows log own holds other = record {
  same = λ n here. holds.same n here ∙ content-append rows log (node_at b n) ∙ ap (λ (there : Content). replay there (rows_of (node_at b n) log)) (sym (beside b rows own other n)) ∙ sym (content-append (rows ++ own) log (node_at b n));
  others = holds.others;
  restores = restored_law b rows own holds.restores other;
}

pub used_law : UsedLaw
used_law low taken b rows own used other = record {
  undoes = used.undoes;
  there = used.there;
  named = all_append (λ row. row.node.bucket ≡ b.bucket → IsSaved b row.node.number × IsCached b row.node.number) rows own used.named
      (all_map (λ row. row.node.bucket ≢ b.bucket) (λ row. row.node.bucket ≡ b.bucket → IsSaved b row.node.number × IsCached b row.node.number) (λ row away here. absurd (away here)) own other);
}
