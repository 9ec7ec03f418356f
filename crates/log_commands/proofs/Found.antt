-- What was read of a log that the disk tells, by the bytes at entry.
use Rattle.std.proofs.Common.{◌≡◌, ◌⊎◌, inl, inr, ℕ, List, [], ◌∷◌, ◌++◌, map, Option, Some, None, Result, Ok, Err, refl, sym, ap, subst, ◌∙◌, arith, append_assoc}
use Rattle.std.specs.Prelude.{Any, Contains, option_map}
use Rattle.std.specs.List.{AllByRecursion}
use Rattle.std.proofs.lemmas.List.Elements.{All-contains, All-from_recursion, Contains-append_right}
use Rattle.log_disk.specs.Disk.{Disk, Eye, Told, region_of}
use Rattle.fine_model.specs.declared.Damage.{Damage}
use Rattle.fine_model.specs.declared.Damage.TheVariants as damage
use Rattle.fine_model.specs.declared.Node.TheVariants as node
use Rattle.fine_model.specs.declared.NodeId.{NodeId}
use Rattle.fine_model.specs.declared.Part.{Part}
use Rattle.fine_model.specs.declared.Row.{Row}
use Rattle.fine_model.specs.Chain.{AreRowsOf, Shows, chain, regions_of}
use Rattle.fine_model.specs.ChainLaws.{SameIn}
use Rattle.fine_model.specs.Commands.{FindsPairs}
use Rattle.fine_model.specs.Damages.{FindsContent, FindsRows, IsDamageOf, IsUnsound}
use Rattle.fine_model.specs.Map.{Pair}
use Rattle.fine_model.specs.Nodes.{Content}
use Rattle.fine_model.specs.Regions.{HasHeader, Image}
use Rattle.fine_model.specs.Views.{SameSeen}
use Rattle.fine_model.proofs.Ordered.Order.{all_map}
use Rattle.fine_model.proofs.Ordered.Parts.{all_both}
use Rattle.fine_model.proofs.Ordered.Zip.{all_left, all_right}
use Rattle.node_fetch.specs.Fetched.{HasBadEntry, HasBadRow, IsReplayOf}
use Rattle.node_fetch.proofs.Blames as blames
use Rattle.damage_laws.specs.Places.{AreKeptOrGood, IsGood, IsKept, IsUnchanged, SeesKeptOrGood}
use Rattle.damage_laws.proofs.Kept.{entry_blamed, found_law, row_blamed}
use Rattle.epoch_room.specs.Value.{RoomValue, made}
use Rattle.epoch_room.specs.Whole.{HoldsParts, IsWhole}
use Rattle.epoch_room.proofs.RegionSets.Freeing.{held_now}
use Rattle.reopen.specs.Opening.{OpensRoom}
use Rattle.log_commands.specs.Reading.{IsGiven, MeetsUnfit, behind_keys, most_pairs}
use Rattle.log_commands.specs.Maps.{FindsMap, IsNamed, LooksOn, finds_by, tells_room}

-- ---- lists

-- what holds of each member holds of all
all_members : {A : Type 0} (P : A → Type 0) (front xs : List A) → ((x : A) → Contains (front ++ xs) x → P x) → AllByRecursion P xs
all_members P front [] each = tt
all_members {A} P front (x ∷ xs) each = (
  each x (Contains-append_right front (x ∷ xs) x (0, omega arith, refl)),
  all_members P (front ++ x ∷ []) xs (λ y there. each y (subst (λ ys. Contains ys y) (append_assoc front (x ∷ []) xs) there)),
)

firsts : {A B : Type 0} (P : A → Type 0) (rs : List (A × B)) → AllByRecursion P (map (λ r. r.0) rs) → AllByRecursion (λ r. P r.0) rs
firsts P [] all = tt
firsts P (r ∷ rs) all = (all.0, firsts P rs all.1)

-- ---- bytes

same_some : (regions some : List ℕ) (a b : Image) → AllByRecursion (λ r. region_of b r ≡ region_of a r) regions → AllByRecursion (Contains regions) some → AllByRecursion (λ r. region_of b r ≡ region_of a r) some
same_some regions some a b same named =
    all_map (Contains regions) (λ r. region_of b r ≡ region_of a r) (λ r there. All-contains (λ r. region_of b r ≡ region_of a r) regions r (All-from_recursion (λ r. region_of b r ≡ region_of a r) regions same) there) some named

-- an eye has the bytes at entry in some regions
record SeesNow (regions : List ℕ) (entry : Image) (told : Option Image) : Type 0 where
  now : Image
  is : told ≡ Some now
  same : SameIn regions entry now

sees_now : (regions : List ℕ) (entry : Image) (told : Option Image) → SameSeen regions (Some entry) told → SeesNow regions entry told
sees_now regions entry None same = absurd same
sees_now regions entry (Some now) same = record { now = now; is = refl; same = same }

ok_same : (a b : List Part) → ◌≡◌ {A = Result (List Part) Damage} (Ok a) (Ok b) → a ≡ b
ok_same a b e = cc

ok_not : (a : List Part) (what : Damage) → ◌≡◌ {A = Result (List Part) Damage} (Ok a) (Err what) → ⊥
ok_not a what e = cc

-- ---- a chain that is damaged shows nothing

pub shows_none : (region_len : ℕ) (entry : Image) (what : Damage) → chain region_len entry ≡ Err what → IsUnsound region_len entry
shows_none region_len entry what is e rows shows sound = ok_not shows.parts what (sym shows.is_chain ∙ is)

-- ---- the room that was made

module _ (old : Disk) (before : Told) (is_before : old.told ≡ Some before) (room : RoomValue) (opens : OpensRoom old room) (whole : IsWhole room) where
  of_made : {A : Type 0} (f : RoomValue → A) → f room ≡ f (made old opens.found.parts opens.found.retired)
  of_made f = ap f opens.is_made

  image_is : room.room.image ≡ Some before.bytes
  image_is = of_made (λ (r : RoomValue). r.room.image) ∙ ap (option_map (λ (t : Told). t.bytes)) is_before

  len_is : room.room.region_len ≡ old.region_len
  len_is = of_made (λ (r : RoomValue). r.room.region_len)

  holds : HoldsParts old.region_len before.bytes room.room.parts room.room.retired
  holds = subst (λ n. HoldsParts n before.bytes room.room.parts room.room.retired) (of_made (λ (r : RoomValue). r.disk.region_len))
      (held_now room whole (whole.lost (of_made (λ (r : RoomValue). r.room.is_shut))) before.bytes image_is).1

  headers : AllByRecursion (λ p. HasHeader old.region_len before.bytes p.region p.header) room.room.parts
  headers = all_left (λ p. HasHeader old.region_len before.bytes p.region p.header) room.room.parts room.room.retired holds.headers

  -- the live parts are the chain
  pub is_chain : chain old.region_len before.bytes ≡ Ok room.room.parts
  is_chain = holds.is_chain

  -- what the log shows its live parts tell
  pub shown_told : (e : ℕ) (rows : List Row) → Shows old.region_len before.bytes e rows → tells_room room rows
  shown_told e rows shows = record {
    image = before.bytes;
    is_told = image_is;
    headers = subst (λ n. AllByRecursion (λ p. HasHeader n before.bytes p.region p.header) room.room.parts) (sym len_is) headers;
    are_rows = subst (λ n. AreRowsOf n before.bytes room.room.parts rows) (sym len_is)
        (subst (λ ps. AreRowsOf old.region_len before.bytes ps rows) (ok_same shows.parts room.room.parts (sym shows.is_chain ∙ is_chain)) shows.are_rows);
  }

  -- ---- by an eye

  module _ (eye : Eye) (looks : LooksOn room.room eye) where
    sees : SeesNow looks.sees.regions before.bytes eye.told
    sees = sees_now looks.sees.regions before.bytes eye.told (subst (λ o. SameSeen looks.sees.regions o eye.told) image_is looks.sees.same)

    eye_len : eye.region_len ≡ old.region_len
    eye_len = looks.sees.region_len ∙ len_is

    unchanged : AllByRecursion (IsUnchanged old.region_len before.bytes sees.now) room.room.parts
    unchanged =
        all_both (λ p. HasHeader old.region_len before.bytes p.region p.header) (λ p. AllByRecursion (Contains looks.sees.regions) (regions_of p)) (IsUnchanged old.region_len before.bytes sees.now)
        (λ p header named. record { header = header; same = record { as_many = sees.same.as_many; same = same_some looks.sees.regions (regions_of p) before.bytes sees.now sees.same.same named } })
        room.room.parts headers looks.sees.named

    kept : SeesKeptOrGood eye before.bytes room.room.parts room.room.parts
    kept = record {
      now = sees.now;
      told = sees.is;
      seen = looks.seen;
      each = subst (λ n. AreKeptOrGood n before.bytes sees.now room.room.parts room.room.parts) (sym eye_len)
          (all_members (λ p. IsKept old.region_len before.bytes sees.now room.room.parts p ⊎ IsGood old.region_len sees.now p) [] room.room.parts (λ p there. inl (record {
            there = there;
            unchanged = All-contains (IsUnchanged old.region_len before.bytes sees.now) room.room.parts p (All-from_recursion (IsUnchanged old.region_len before.bytes sees.now) room.room.parts unchanged) there;
          })));
    }

    content : (id : NodeId) (found : Content) → IsReplayOf eye room.room.parts id found → FindsContent old.region_len before.bytes room.room.parts id found
    content id found replay =
        let f = blames.found_law eye sees.now room.room.parts id found sees.is replay in
        let same = firsts (IsUnchanged old.region_len before.bytes sees.now) f.read
        (all_right (IsUnchanged old.region_len before.bytes sees.now) f.skipped (map (λ r. r.0) f.read) (subst (AllByRecursion (IsUnchanged old.region_len before.bytes sees.now)) f.whole unchanged)) in
        record {
          skipped = f.skipped;
          read = f.read;
          whole = f.whole;
          each = all_both (λ r. IsUnchanged old.region_len before.bytes sees.now r.0) (λ r. FindsRows old.region_len sees.now id r.0 r.1) (λ r. FindsRows old.region_len before.bytes id r.0 r.1)
              (λ r u finds. found_law old.region_len before.bytes sees.now r.0 id r.1 u finds) f.read same
              (subst (λ n. AllByRecursion (λ r. FindsRows n sees.now id r.0 r.1) f.read) eye_len f.each);
          why = f.why;
          replayed = f.replayed;
        }

    each_content : (bucket number : ℕ) (c : Content) → IsGiven (tells_room room) (finds_by room.room eye) bucket number c
        → FindsContent old.region_len before.bytes room.room.parts (record { bucket = bucket; number = number }) c ⊎ (c ≡ (node.Broken, 0))
    each_content bucket number c (inl f) = inl (content (record { bucket = bucket; number = number }) c f.0)
    each_content bucket number c (inr broken) = inr broken

    row : (id : NodeId) (region at : ℕ) → Any (λ p. HasBadRow eye.told room.room.region_len p id (record { region = region; at = at })) room.room.parts → IsDamageOf old.region_len before.bytes room.room.parts (damage.Region region at)
    row id region at bad =
        subst (λ n. IsDamageOf n before.bytes room.room.parts (damage.Region region at)) eye_len
        (row_blamed eye before.bytes room.room.parts room.room.parts id (record { region = region; at = at }) kept
        (subst (λ n. Any (λ p. HasBadRow eye.told n p id (record { region = region; at = at })) room.room.parts) (sym looks.sees.region_len) bad))

    entry : (region at : ℕ) → Any (λ p. HasBadEntry eye.told room.room.region_len p (record { region = region; at = at })) room.room.parts → IsDamageOf old.region_len before.bytes room.room.parts (damage.Region region at)
    entry region at bad =
        subst (λ n. IsDamageOf n before.bytes room.room.parts (damage.Region region at)) eye_len
        (entry_blamed eye before.bytes room.room.parts room.room.parts (record { region = region; at = at }) kept
        (subst (λ n. Any (λ p. HasBadEntry eye.told n p (record { region = region; at = at })) room.room.parts) (sym looks.sees.region_len) bad))

    unfit : (id : NodeId) → MeetsUnfit (tells_room room) (finds_by room.room eye) id → IsDamageOf old.region_len before.bytes room.room.parts (damage.Node id)
    unfit id m = record {
      in_bucket = m.in_bucket;
      nodes = m.nodes;
      each = λ number. each_content id.bucket number (m.nodes number) (m.each number);
      itself = content id (m.nodes id.number) m.itself;
      unfit = inr ([], behind_keys, most_pairs, m.unfit);
    }

  -- ---- what was read

  pub finds_pairs : (pairs : List Pair) → FindsMap room pairs → FindsPairs old.region_len before.bytes room.room.parts pairs
  finds_pairs pairs f = record {
    nodes = f.found.nodes;
    each = λ bucket number. each_content f.eye f.looks bucket number (f.found.nodes bucket number) (f.found.each bucket number);
    wanted = most_pairs;
    more = f.found.few;
    fit = f.found.fit;
    are = f.found.are;
  }

  pub is_damage : (what : Damage) → IsNamed room what → IsDamageOf old.region_len before.bytes room.room.parts what
  is_damage (damage.Region region at) (eye, looks, inl (id, bad)) = row eye looks id region at bad
  is_damage (damage.Region region at) (eye, looks, inr bad) = entry eye looks region at bad
  is_damage (damage.Node id) (eye, looks, m) = unfit eye looks id m
  is_damage (damage.Gap after region) named = absurd named
  is_damage (damage.Overlap region other) named = absurd named
