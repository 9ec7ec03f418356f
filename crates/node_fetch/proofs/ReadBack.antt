-- The replay of what was read of parts, the newest one last.
use Rattle.std.proofs.Common.{◌≡◌, inl, inr, true, true≢false, List, [], ◌∷◌, ◌++◌, map, refl, sym, ap, ◌∙◌, append_assoc, append-nil}
use Rattle.std.specs.Prelude.{flat_map, IfOk, Result, Ok, Err}
use Rattle.std.specs.List.{list_any}
use Rattle.std.proofs.lemmas.Grind.{flat_map-append}
use Rattle.std.proofs.lemmas.List.{map-append}
use Rattle.fine_model.specs.declared.NodeId.{NodeId}
use Rattle.fine_model.specs.declared.Part.{Part}
use Rattle.fine_model.specs.declared.Row.{Row}
use Rattle.fine_model.specs.declared.FetchFault.{FetchFault}
use Rattle.fine_model.specs.Merge.{is_image}
use Rattle.fine_model.specs.Nodes.{Content, base, replay}
use Rattle.log_disk.specs.Disk.{Eye}
use Rattle.partition_index.specs.Parts.{SameEye}
use Rattle.fine_model.proofs.Ordered.Order.{all_map}
use Rattle.node_fetch.proofs.PartRows.{reads_same}
use Rattle.fine_model.proofs.Trees.NodeLaws.{replay-append}
use Rattle.fine_model.proofs.Ordered.Sets.{all_append}
use Rattle.fine_model.specs.Damages.{has_image_first}
use Rattle.node_fetch.specs.Fetched.{ReadsRows, IsReplayOf}

-- with no parts the node is as it began
pub replay_none : (eye : Eye) (parts : List Part) (id : NodeId) (found : Content) → parts ≡ [] → found ≡ base id → IsReplayOf eye parts id found
unfolding replay
replay_none eye parts id found none is = record { skipped = []; read = []; whole = none; each = tt; why = inl refl; replayed = is }

-- the newest part alone, where it has an image
pub replay_image : (eye : Eye) (parts front : List Part) (p : Part) (id : NodeId) (rows : List Row) (found : Content) → parts ≡ front ++ p ∷ [] → ReadsRows eye id p rows
    → list_any (λ row. is_image row.rec) rows ≡ true → found ≡ replay (base id) rows → IsReplayOf eye parts id found
replay_image eye parts front p id rows found whole read image is = record {
  skipped = front;
  read = (p, rows) ∷ [];
  whole = whole;
  each = (read, tt);
  why = inr image;
  replayed = is ∙ ap (replay (base id)) (sym (append-nil rows));
}

first_still : (read : List (Part × List Row)) (last : Part × List Row) → has_image_first read ≡ true → has_image_first (read ++ last ∷ []) ≡ true
first_still [] last h = absurd (true≢false (sym h))
first_still (r ∷ read) last h = h

-- the newest part behind those before it
pub replay_last : (eye : Eye) (parts front : List Part) (p : Part) (id : NodeId) (rows : List Row) (before found : Content) → parts ≡ front ++ p ∷ [] → ReadsRows eye id p rows
    → IsReplayOf eye front id before → found ≡ replay before rows → IsReplayOf eye parts id found
replay_last eye parts front p id rows before found whole read b is = record {
  skipped = b.skipped;
  read = b.read ++ (p, rows) ∷ [];
  whole = whole ∙ ap (λ ps. ps ++ p ∷ []) b.whole ∙ append_assoc b.skipped (map (λ r. r.0) b.read) (p ∷ []) ∙ ap (λ ps. b.skipped ++ ps) (sym (map-append (λ r. r.0) b.read ((p, rows) ∷ [])));
  each = all_append (λ r. ReadsRows eye id r.0 r.1) b.read ((p, rows) ∷ []) b.each (read, tt);
  why = elim b.why [
    | inl all ↦ inl all
    | inr image ↦ inr (first_still b.read (p, rows) image)
  ];
  replayed =
      is ∙ ap (λ c. replay c rows) b.replayed ∙ sym (replay-append (base id) (flat_map (λ r. r.1) b.read) rows)
      ∙ ap (replay (base id)) (ap (λ rs. flat_map (λ r. r.1) b.read ++ rs) (sym (append-nil rows)) ∙ sym (flat_map-append (λ r. r.1) b.read ((p, rows) ∷ [])));
}

pub after_is : (r : Result Content FetchFault) (eye : Eye) (parts : List Part) (id : NodeId) (c : Content) → IfOk r (λ found. found ≡ c) → ((found : Content) → found ≡ c → IsReplayOf eye parts id found) → IfOk r (IsReplayOf eye parts id)
after_is (Ok found) eye parts id c is f = f found is
after_is (Err e) eye parts id c is f = tt

-- what was read through an eye that is the same but for its counts
pub replay_same : (old new : Eye) (parts : List Part) (id : NodeId) (found : Content) → SameEye old new → IsReplayOf new parts id found → IsReplayOf old parts id found
replay_same old new parts id found same r = record {
  skipped = r.skipped;
  read = r.read;
  whole = r.whole;
  each = all_map (λ q. ReadsRows new id q.0 q.1) (λ q. ReadsRows old id q.0 q.1) (λ q h. reads_same old new id q.0 q.1 same h) r.read r.each;
  why = r.why;
  replayed = r.replayed;
}
