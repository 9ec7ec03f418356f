use Rattle.std.proofs.Common.{◌≡◌, ℕ, ◌+◌, ◌-◌, ◌<◌, ◌≤◌, true, List, ◌++◌, [], ◌∷◌, Ok, length, take, refl, sym, subst, ap, ◌∙◌, arith}
use Rattle.std.specs.Prelude.{min, nat_eq}
use Rattle.std.specs.List.{list_any}
use Rattle.std.proofs.lemmas.List.{append-nil, take-append-drop}
use Rattle.std.proofs.lemmas.Result.{err_from_is_err_and}
use Rattle.fine_model.specs.Regions.{place_of, body_len}
use Rattle.epoch_room.specs.BodyWrites.{WritesBody, lying_in}
use Rattle.epoch_room.proofs.Merges.BodyPieces.{body_among, body_none, first_lies, fits_second, last_lies, pieces, refused_body, still_place}
use Rattle.epoch_room.proofs.body.write_body.Goals as goal

room_of : (a b m n : ℕ) → a ≡ m → b ≡ n → a - b ≡ m - n
room_of a b m n e f = omega (arith, e, f)

pub returns-then-is_empty : goal.returns-then-is_empty
returns-then-is_empty g c =
    let none : length c.args.bytes.now ≡ 0 = grind (arith, c.is_empty.ensures, c.if-is_empty.true) in
    body_none (lying_in (g.D.LogDisk.state c.args.disk.now).region_len c.args.part.now.region c.args.part.now.header c.args.at (length c.args.bytes.now)) c.args.part.now c.args.at c.args.bytes.now (g.D.LogDisk.state c.args.disk.now) c.requires.place.sound none

pub write_piece-requires-2-clause-place : goal.write_piece-requires-2-clause-place
write_piece-requires-2-clause-place g c κs within =
    let old = g.D.LogDisk.state c.args.disk.now in
    let mid = g.D.LogDisk.state c.write_piece.new.disk in
    let front = c.split_at.result.0.now in
    let back = c.split_at.result.1.now in
    let split : front ++ back ≡ c.args.bytes.now = ap (λ xs. xs ++ back) c.split_at.ensures.front ∙ ap (λ xs. take c.min.result c.args.bytes.now ++ xs) c.split_at.ensures.back ∙ take-append-drop c.min.result c.args.bytes.now in
    still_place ((place_of old.region_len c.args.part.now.region c.args.part.now.header c.args.at).region ∷ []) c.args.part.now c.args.at front back old mid mid c.requires.place (subst (λ xs. c.args.at + length xs ≤ body_len c.args.part.now.header) (sym split) c.requires.within) c.in_ok-write_piece.ensures

pub write_piece-requires-2-clause-in_region : goal.write_piece-requires-2-clause-in_region
write_piece-requires-2-clause-in_region g c κs within =
    let old = g.D.LogDisk.state c.args.disk.now in
    let mid = g.D.LogDisk.state c.write_piece.new.disk in
    let part = c.args.part.now in
    let front = c.split_at.result.0.now in
    let back = c.split_at.result.1.now in
    let same : mid.region_len ≡ old.region_len = (let first : WritesBody ((place_of old.region_len part.region part.header c.args.at).region ∷ []) part c.args.at front (Ok c.in_ok-write_piece.field-0) old mid = c.in_ok-write_piece.ensures in first.beside.region_len) in
    let len : c.region_len-region_len.result ≡ old.region_len = c.region_len-region_len.ensures.region_len in
    let at : c.from.result ≡ (place_of old.region_len part.region part.header c.args.at).at = c.from.ensures ∙ c.place_of-region.ensures.place ∙ ap (λ n. (place_of n part.region part.header c.args.at).at) len in
    let low : (place_of old.region_len part.region part.header c.args.at).at < old.region_len = (let l = c.place_of-region.ensures.in_region in omega (arith, l, at, c.from.ensures, len)) in
    let room_is = room_of c.region_len-region_len.result c.from.result old.region_len (place_of old.region_len part.region part.header c.args.at).at len at in
    let some : 1 ≤ length back = grind (arith, c.is_empty-2.ensures, c.if-is_empty-2.false) in
    let both : length front + length back ≡ length c.args.bytes.now = (let a = c.split_at.ensures.front_len in let b = c.split_at.ensures.back_len in omega (arith, a, b)) in
    subst (λ n. (place_of n part.region part.header (c.args.at + length front)).at + length back ≤ n) (sym same)
    (fits_second old.region_len part.region part.header c.args.at (length c.args.bytes.now) (old.region_len - (place_of old.region_len part.region part.header c.args.at).at) front back c.requires.place.lies.large low refl
    (c.split_at.ensures.front_len ∙ c.min.ensures ∙ ap (λ n. min n (length c.args.bytes.now)) room_is) both some c.requires.few)

pub returns-in_err-write_piece : goal.returns-in_err-write_piece
returns-in_err-write_piece g c =
    let old = g.D.LogDisk.state c.args.disk.now in
    let mid = g.D.LogDisk.state c.write_piece.new.disk in
    let part = c.args.part.now in
    let front = c.split_at.result.0.now in
    let few : length front ≤ length c.args.bytes.now = (let a = c.split_at.ensures.front_len in let b = c.split_at.ensures.back_len in omega (arith, a, b)) in
    let some : 1 ≤ length c.args.bytes.now = grind (arith, c.is_empty.ensures, c.if-is_empty.false) in
    let p = err_from_is_err_and c.from_residual.result c.from_residual.ensures.1 in
    let here : ℕ = (place_of old.region_len part.region part.header c.args.at).region in
    let all : List ℕ = lying_in old.region_len part.region part.header c.args.at (length c.args.bytes.now) in
    rw (p.1, p.2)
    (refused_body all part c.args.at front c.args.bytes.now c.in_err-write_piece.field-0.0 old mid few
    (body_among here all (first_lies old.region_len part.region part.header c.args.at (length c.args.bytes.now) some) part c.args.at front old mid c.in_err-write_piece.ensures))

pub returns-then-is_empty-2 : goal.returns-then-is_empty-2
returns-then-is_empty-2 g c =
    let old = g.D.LogDisk.state c.args.disk.now in
    let mid = g.D.LogDisk.state c.write_piece.new.disk in
    let part = c.args.part.now in
    let front = c.split_at.result.0.now in
    let back = c.split_at.result.1.now in
    let split : front ++ back ≡ c.args.bytes.now = ap (λ xs. xs ++ back) c.split_at.ensures.front ∙ ap (λ xs. take c.min.result c.args.bytes.now ++ xs) c.split_at.ensures.back ∙ take-append-drop c.min.result c.args.bytes.now in
    let none : length back ≡ 0 = grind (arith, c.is_empty-2.ensures, c.if-is_empty-2.true) in
    let some : 1 ≤ length c.args.bytes.now = grind (arith, c.is_empty.ensures, c.if-is_empty.false) in
    let here : ℕ = (place_of old.region_len part.region part.header c.args.at).region in
    let all : List ℕ = lying_in old.region_len part.region part.header c.args.at (length c.args.bytes.now) in
    subst (λ xs. WritesBody all part c.args.at xs (Ok tt) old mid) (sym (append-nil front) ∙ ap (λ xs. front ++ xs) (sym (empty back none)) ∙ split)
    (body_among here all (first_lies old.region_len part.region part.header c.args.at (length c.args.bytes.now) some) part c.args.at front old mid c.in_ok-write_piece.ensures)
  where
    empty : (xs : List ℕ) → length xs ≡ 0 → xs ≡ []
    empty [] e = refl
    empty (x ∷ xs) e = absurd (omega (arith, e))

pub returns : goal.returns
returns g c =
    let old = g.D.LogDisk.state c.args.disk.now in
    let mid = g.D.LogDisk.state c.write_piece.new.disk in
    let new = g.D.LogDisk.state c.write_piece-2.new.disk in
    let part = c.args.part.now in
    let front = c.split_at.result.0.now in
    let back = c.split_at.result.1.now in
    let split : front ++ back ≡ c.args.bytes.now = ap (λ xs. xs ++ back) c.split_at.ensures.front ∙ ap (λ xs. take c.min.result c.args.bytes.now ++ xs) c.split_at.ensures.back ∙ take-append-drop c.min.result c.args.bytes.now in
    let large : 70 < old.region_len = c.requires.place.lies.large in
    let some : 1 ≤ length back = grind (arith, c.is_empty-2.ensures, c.if-is_empty-2.false) in
    let all : List ℕ = lying_in old.region_len part.region part.header c.args.at (length c.args.bytes.now) in
    let both : length front + length back ≡ length c.args.bytes.now = (let a = c.split_at.ensures.front_len in let b = c.split_at.ensures.back_len in omega (arith, a, b)) in
    let some_all : 1 ≤ length c.args.bytes.now = omega (arith, both, some) in
    let first' : WritesBody ((place_of old.region_len part.region part.header c.args.at).region ∷ []) part c.args.at front (Ok c.in_ok-write_piece.field-0) old mid = c.in_ok-write_piece.ensures in
    let len : c.region_len-region_len.result ≡ old.region_len = c.region_len-region_len.ensures.region_len in
    let at : c.from.result ≡ (place_of old.region_len part.region part.header c.args.at).at = c.from.ensures ∙ c.place_of-region.ensures.place ∙ ap (λ n. (place_of n part.region part.header c.args.at).at) len in
    let low : (place_of old.region_len part.region part.header c.args.at).at < old.region_len = (let l = c.place_of-region.ensures.in_region in omega (arith, l, at, c.from.ensures, len)) in
    let room_is = room_of c.region_len-region_len.result c.from.result old.region_len (place_of old.region_len part.region part.header c.args.at).at len at in
    let fits : (place_of old.region_len part.region part.header (c.args.at + length front)).at + length back ≤ old.region_len =
    fits_second old.region_len part.region part.header c.args.at (length c.args.bytes.now) (old.region_len - (place_of old.region_len part.region part.header c.args.at).at) front back large low refl
    (c.split_at.ensures.front_len ∙ c.min.ensures ∙ ap (λ n. min n (length c.args.bytes.now)) room_is) both some c.requires.few in
    let there : list_any (nat_eq (place_of old.region_len part.region part.header (c.args.at + length front)).region) all ≡ true =
    subst (λ n. list_any (nat_eq (place_of old.region_len part.region part.header (c.args.at + length front)).region) (lying_in old.region_len part.region part.header c.args.at n) ≡ true) both (last_lies old.region_len part.region part.header c.args.at (length front) (length back) large some fits) in
    let first : WritesBody all part c.args.at front (Ok c.in_ok-write_piece.field-0) old mid =
    body_among (place_of old.region_len part.region part.header c.args.at).region all (first_lies old.region_len part.region part.header c.args.at (length c.args.bytes.now) some_all) part c.args.at front old mid first' in
    let second : WritesBody all part (c.args.at + length front) back c.write_piece-2.result mid new =
    body_among (place_of old.region_len part.region part.header (c.args.at + length front)).region all there part (c.args.at + length front) back mid new
    (subst (λ n. WritesBody ((place_of n part.region part.header (c.args.at + length front)).region ∷ []) part (c.args.at + length front) back c.write_piece-2.result mid new) first'.beside.region_len c.write_piece-2.ensures) in
    subst (λ xs. WritesBody all part c.args.at xs c.write_piece-2.result old new) split
    (pieces all part c.args.at front back old mid new c.requires.place (subst (λ xs. c.args.at + length xs ≤ body_len part.header) (sym split) c.requires.within) c.write_piece-2.result first second)
