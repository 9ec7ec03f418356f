-- What the live parts are made of, one step behind the other.
use Rattle.std.proofs.Common.{◌≡◌, ◌∙◌, ℕ, List, [], ◌∷◌, ◌++◌, Option, Some, None, refl, sym, ap, subst, append_assoc, true≢false}
use Rattle.std.specs.Prelude.{is_some}
use Rattle.std.proofs.lemmas.Grind.{flat_map-append}
use Rattle.fine_model.specs.declared.Row.{Row}
use Rattle.fine_model.specs.Nodes.{rows_of}
use Rattle.fine_model.specs.Regions.{Image}
use Rattle.fine_model.proofs.Trees.NodeLaws.{rows_of-append}
use Rattle.damage_laws.specs.Counts.{CountFrom}
use Rattle.damage_laws.specs.Made.{AreMadeOf, all_of}
use Rattle.damage_laws.specs.Places.{AreKeptOrGood}
use Rattle.epoch_room.specs.Value.{RoomValue}
use Rattle.room_steps.specs.Made.{AreCounted, KeepsGood, LivesOn, MadeOn, MakesWith}
use Rattle.room_steps.proofs.Stepping.{lives_same}

-- ---- versions

count_behind : (version : ℕ) (front rows : List Row) → CountFrom version (front ++ rows) → (behind : ℕ) × CountFrom behind rows
count_behind version [] rows c = (version, c)
count_behind version (row ∷ front) rows c = count_behind row.version front rows c.1

-- the versions of the last of such rows count too
pub counted_behind : (front rows : List Row) → AreCounted (front ++ rows) → AreCounted rows
counted_behind front rows counted id =
    let all = counted id in count_behind all.0 (rows_of id front) (rows_of id rows) (subst (CountFrom all.0) (rows_of-append id front rows) all.1)

-- ---- what is told

-- where as much is told as was
pub told_by : (was now : Option Image) (image : Image) → is_some now ≡ is_some was → was ≡ Some image → (other : Image) × (now ≡ Some other)
told_by (Some was) (Some now) image same is = (now, refl)
told_by (Some was) None image same is = absurd (true≢false (sym same))
told_by None now image same is = absurd (let x = is in cc)

-- ---- one step behind the other

pub makes_on : (a b c : RoomValue) (more then_more : List (List Row)) → b.room.region_len ≡ a.room.region_len → ((image : Image) → a.room.image ≡ Some image → (other : Image) × (b.room.image ≡ Some other)) → MakesWith more a b → MakesWith then_more b c
    → MakesWith (more ++ then_more) a c
makes_on a b c more then_more len shown p q entry first last parts sealed is_first is_last made =
    let mid = shown first is_first in
    let between = p entry first mid.0 parts sealed is_first mid.1 made in
    let behind = q entry mid.0 last parts (sealed ++ more) mid.1 is_last (subst (λ n. AreMadeOf n entry mid.0 parts (sealed ++ more) b.room.parts) (sym len) between) in
    subst (λ xs. AreMadeOf a.room.region_len entry last parts xs c.room.parts) (append_assoc sealed more then_more) (subst (λ n. AreMadeOf n entry last parts ((sealed ++ more) ++ then_more) c.room.parts) len behind)

good_on : (a b c : RoomValue) → b.room.region_len ≡ a.room.region_len → ((image : Image) → a.room.image ≡ Some image → (other : Image) × (b.room.image ≡ Some other)) → KeepsGood a b → KeepsGood b c → KeepsGood a c
good_on a b c len shown p q entry first last parts is_first is_last good =
    let mid = shown first is_first in
    let between = p entry first mid.0 parts is_first mid.1 good in
    subst (λ n. AreKeptOrGood n entry last parts c.room.parts) len (q entry mid.0 last parts mid.1 is_last (subst (λ n. AreKeptOrGood n entry mid.0 parts b.room.parts) (sym len) between))

pub made_on : (a b c : RoomValue) → b.room.region_len ≡ a.room.region_len → is_some b.room.image ≡ is_some a.room.image → MadeOn a b → MadeOn b c → MadeOn a c
made_on a b c len told p q = record {
  more = p.more ++ q.more;
  rows = ap (λ xs. xs ++ c.room.open_rows) (flat_map-append (λ (rows : List Row). rows) p.more q.more) ∙ append_assoc (all_of p.more) (all_of q.more) c.room.open_rows ∙ ap (λ xs. all_of p.more ++ xs) q.rows ∙ p.rows;
  lives = λ counted.
      let first = p.lives counted in
      let second = q.lives (counted_behind (all_of p.more) b.room.open_rows (subst AreCounted (sym p.rows) counted)) in
      let shown : (image : Image) → a.room.image ≡ Some image → (other : Image) × (b.room.image ≡ Some other) = λ image is. told_by a.room.image b.room.image image told is in
      record { makes = makes_on a b c p.more q.more len shown first.makes second.makes; good = good_on a b c len shown first.good second.good };
}

-- ---- steps that seal nothing

pub made_none : (old new : RoomValue) → new.room.open_rows ≡ old.room.open_rows → LivesOn [] old new → MadeOn old new
made_none old new rows lives = record { more = []; rows = rows; lives = λ counted. lives }

pub made_same : (old new : RoomValue) → new.room.open_rows ≡ old.room.open_rows → new.room.image ≡ old.room.image → new.room.parts ≡ old.room.parts → MadeOn old new
made_same old new rows image parts = made_none old new rows (lives_same old new image parts)

pub made_itself : (room : RoomValue) → MadeOn room room
made_itself room = made_same room room refl refl refl
