-- Items written one after the other.
use Rattle.std.proofs.Common.{◌≡◌, ℕ, ◌+◌, ◌-◌, ◌*◌, ◌≤◌, ◌<◌, List, [], ◌∷◌, ◌++◌, length, get_or, take, refl, sym, ap, subst, ◌∙◌, append_assoc, arith, length-append, vec_len, vec_capacity}
use Rattle.std.specs.List.{flat_map}
use Rattle.std.specs.Global.{Vec}
use Rattle.std.specs.Int.{to_be_bytes, w32}
use Rattle.std.proofs.lemmas.List.Folds.{length-flat_map-take}
use Rattle.fine_model.specs.declared.Row.{Row}
use Rattle.fine_model.specs.RowBytes.{kind, body, row_bytes, row_len}
use Rattle.node_record.specs.Writing.{Appends, front}

-- what an item and those before it spell is no longer than what all spell
item_room : {A : Type 0} (f : A → List ℕ) (xs ys : List A) (i : ℕ) (x : A) → ys ≡ xs → i < length ys → x ≡ get_or ys i x → length (flat_map f (take i xs)) + length (f x) ≤ length (flat_map f xs)
item_room {A} f xs ys i x same lt is =
    let within : i < length xs = omega (arith, ap length same) in
    let at : x ≡ get_or xs i x = is ∙ ap (λ (zs : List A). get_or zs i x) same in
    subst (λ (y : A). length (flat_map f (take i xs)) + length (f y) ≤ length (flat_map f xs)) (sym at) (length-flat_map-take f xs i x within)

-- so there is room for the item behind them
pub item_fits : {A : Type 0} (f : A → List ℕ) (old new : Vec ℕ) (before all : List ℕ) (xs ys : List A) (i : ℕ) (x : A) → ys ≡ xs → i < length ys → x ≡ get_or ys i x → vec_len old + length all ≤ vec_capacity old
    → length before + length (flat_map f xs) ≤ length all → Appends old new (before ++ flat_map f (take i xs)) → vec_len new + length (f x) ≤ vec_capacity new
item_fits f old new before all xs ys i x same lt is room within done = omega (arith, item_room f xs ys i x same lt is, done.len, done.room, length-append before (flat_map f (take i xs)))

pub children_len : (kids : List ℕ) → length (flat_map (to_be_bytes w32) kids) ≡ 4 * length kids
children_len [] = refl
children_len (k ∷ kids) = omega (arith, length-append (to_be_bytes w32 k) (flat_map (to_be_bytes w32) kids), children_len kids)

-- behind the front of a row there is room for its body
pub room_behind : (row : Row) (a b : Vec ℕ) (k len : ℕ) → vec_len a + row_len row ≤ vec_capacity a → Appends a b (front k row len) → vec_len b + length (body row.rec) ≤ vec_capacity b
unfolding front
room_behind row a b k len room p = omega (arith, p.len, p.room)

-- a front and a body make the row
pub whole_row : (row : Row) (a b c : Vec ℕ) (k len : ℕ) → k ≡ kind row.rec → len ≡ row_len row → Appends a b (front k row (len - 19)) → Appends b c (body row.rec) → c.items ≡ a.items ++ row_bytes row
unfolding front row_bytes
whole_row row a b c k len is long p q =
    let n : len - 19 ≡ length (body row.rec) = omega arith in
    let made : front k row (len - 19) ++ body row.rec ≡ row_bytes row = ap (λ (n : ℕ). front k row n ++ body row.rec) n ∙ ap (λ (k : ℕ). front k row (length (body row.rec)) ++ body row.rec) is in
    q.items ∙ ap (λ (t : List ℕ). t ++ body row.rec) p.items ∙ append_assoc a.items (front k row (len - 19)) (body row.rec) ∙ ap (λ (t : List ℕ). a.items ++ t) made
