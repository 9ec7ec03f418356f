-- Windows on the body of a part, and reading ahead through them.
use Rattle.std.proofs.Common.{◌≡◌, ℕ, ◌+◌, ◌-◌, ◌<◌, ◌≤◌, List, [], ◌++◌, length, take, drop, Option, Some, None, refl, sym, ap, ◌∙◌, subst, arith, append-nil, length-append, length-take, length-drop}
use Rattle.std.specs.Prelude.{slice_range, Bool, true, false, if◌then◌else◌, Result, Ok, Err, OnErr, OnOk, IfOk, nat_lt}
use Rattle.std.proofs.lemmas.List.{drop-take, drop-drop, length-take-le, take-append-drop, take-take, take_all}
use Rattle.std.proofs.Math.ListN.{drop_of_length-le}
use Rattle.fine_model.specs.declared.FetchFault.{FetchFault}
use Rattle.fine_model.specs.declared.FetchFault.TheVariants as fault
use Rattle.node_fetch.specs.Fetched.{NoDamage}
use Rattle.fine_model.specs.declared.Part.{Part}
use Rattle.fine_model.specs.declared.Header.{Header}
use Rattle.fine_model.specs.Regions.{Image, body_in, body_len}
use Rattle.partition_index.specs.Parts.{LiesIn}
use Rattle.partition_index.proofs.BodyPlaces.{laid}
use Rattle.std.proofs.lemmas.Nat.{mul-le}
use Rattle.std.proofs.lemmas.Bool.{lt-ltb}
use Rattle.fine_model.specs.Seek.{RowSpan, entry_at, entry_place, is_entry, is_followed, span_at, span_end}
use Rattle.partition_index.specs.declared.entries.IndexEntry.{IndexEntry}
use Rattle.partition_index.specs.declared.entries.Span.{Span}
use Rattle.partition_index.specs.Entries.{row_span_of}
use Rattle.partition_index.specs.Search.{IsRangeAt, TellsRows}
use Rattle.log_disk.specs.Disk.{Eye}
use Rattle.fine_model.specs.declared.Row.{Row}
use Rattle.fine_model.specs.RowBytes.{rows_len}
use Rattle.partition_merge.proofs.Sources.{starts_at}
use Rattle.partition_merge.specs.declared.merger.Source.{Source}
use Rattle.partition_merge.specs.Mergers.{AreKept, IsEntryOf, IsKept, StandsAt, at_front, kept_count, start_at}
use Rattle.partition_merge.specs.Streams.{AreInOrder, IsInOrder, both_bytes_left}
use Rattle.partition_merge.specs.Windows.{WindowValue}
use Rattle.partition_index.proofs.Looking.{each_told, told_as, range_is, range_split}

-- what of a range is behind its first bytes
pub range_behind : (known : Option Image) (part : Part) (from passed : ℕ) (bytes : List ℕ) → passed ≤ length bytes → IsRangeAt known part from bytes → IsRangeAt known part (from + passed) (drop passed bytes)
range_behind known part from passed bytes few range =
    each_told (λ image. drop passed bytes ≡ slice_range (body_in image part.region part.header) (from + passed) (from + passed + length (drop passed bytes))) known
    (λ image t.
    let body : List ℕ = body_in image part.region part.header in
    let is : bytes ≡ slice_range body from (from + length bytes) = told_as (λ i. bytes ≡ slice_range (body_in i part.region part.header) from (from + length bytes)) known image t range in
    let left : ℕ = length bytes - passed in
    let long : length bytes ≡ passed + left = omega (arith, few) in
    ap (drop passed) (is ∙ range_is body from (from + length bytes) (passed + left) (ap (λ n. from + n) long)) ∙ drop-take passed left (drop from body) ∙ ap (take left) (drop-drop passed from body)
    ∙ sym (range_is body (from + passed) (from + passed + length (drop passed bytes)) left (ap (λ n. from + passed + n) (length-drop passed bytes))))

-- a range, and the one behind it
pub range_joined : (known : Option Image) (part : Part) (from at : ℕ) (bytes more : List ℕ) → at ≡ from + length bytes → IsRangeAt known part from bytes → IsRangeAt known part at more → IsRangeAt known part from (bytes ++ more)
range_joined known part from at bytes more is front back =
    each_told (λ image. bytes ++ more ≡ slice_range (body_in image part.region part.header) from (from + length (bytes ++ more))) known
    (λ image t.
    let body : List ℕ = body_in image part.region part.header in
    let first : bytes ≡ slice_range body from (from + length bytes) = told_as (λ i. bytes ≡ slice_range (body_in i part.region part.header) from (from + length bytes)) known image t front in
    let second : more ≡ slice_range body at (at + length more) = told_as (λ i. more ≡ slice_range (body_in i part.region part.header) at (at + length more)) known image t back in
    let there : slice_range body at (at + length more) ≡ slice_range body (from + length bytes) (from + length bytes + length more) = ap (λ n. slice_range body n (n + length more)) is in
    ap (λ xs. xs ++ more) first ∙ ap (λ xs. slice_range body from (from + length bytes) ++ xs) (second ∙ there) ∙ sym (range_split body from (length bytes) (length more))
    ∙ sym (ap (λ n. slice_range body from (from + n)) (length-append bytes more)))

-- so of the front of a range
pub range_front : (known : Option Image) (part : Part) (from len : ℕ) (bytes : List ℕ) → len ≤ length bytes → IsRangeAt known part from bytes → IsRangeAt known part from (take len bytes)
range_front known part from len bytes few range =
    each_told (λ image. take len bytes ≡ slice_range (body_in image part.region part.header) from (from + length (take len bytes))) known
    (λ image t.
    let body : List ℕ = body_in image part.region part.header in
    let is : bytes ≡ slice_range body from (from + length bytes) = told_as (λ i. bytes ≡ slice_range (body_in i part.region part.header) from (from + length bytes)) known image t range in
    let long : length (take len bytes) ≡ len = omega (arith, few, length-take len bytes) in
    ap (take len) (is ∙ range_is body from (from + length bytes) (length bytes) refl) ∙ take-take len (length bytes) (drop from body) few
    ∙ sym (range_is body from (from + length (take len bytes)) len (ap (λ n. from + n) long)))

-- what stands in the middle of a range
pub range_within : (known : Option Image) (part : Part) (from at len : ℕ) (bytes : List ℕ) → from ≤ at → at + len ≤ from + length bytes → IsRangeAt known part from bytes → IsRangeAt known part at (take len (drop (at - from) bytes))
range_within known part from at len bytes low high range =
    let there : from + (at - from) ≡ at = omega (arith, low) in
    range_front known part at len (drop (at - from) bytes) (omega (arith, low, high, length-drop (at - from) bytes))
    (subst (λ n. IsRangeAt known part n (drop (at - from) bytes)) there (range_behind known part from (at - from) bytes (omega (arith, high)) range))

-- the same bytes
pub range_as : (known : Option Image) (part : Part) (from : ℕ) (bytes others : List ℕ) → bytes ≡ others → IsRangeAt known part from others → IsRangeAt known part from bytes
range_as known part from bytes others same range = subst (IsRangeAt known part from) (sym same) range

-- what was written over all of a list
pub all_over : (n : ℕ) (new old : List ℕ) → length new ≡ n → length old ≡ n → take n (new ++ drop (length new) old) ≡ new
all_over n new old long as_long =
    let none : drop (length new) old ≡ [] = drop_of_length-le old (omega (arith, long, as_long)) in
    ap (λ xs. take n (new ++ xs)) none ∙ ap (take n) (append-nil new) ∙ take_all n new (omega (arith, long))

-- a buffer has as many bytes as it counts
pub front_long : (n : ℕ) (items bytes : List ℕ) → n ≤ length items → take n items ≡ bytes → length bytes ≡ n
front_long n items bytes few is = sym (ap length is) ∙ length-take-le n items few

-- what was read behind the bytes of a buffer
pub range_read : (known : Option Image) (part : Part) (at n more : ℕ) (old items new : List ℕ) → length old ≡ n → items ≡ new → IsRangeAt known part at (take (n + more - n) (drop n new)) → IsRangeAt known part at (drop (length old) (take (n + more) items))
range_read known part at n more old items new long is range =
    let count : more ≡ n + more - n = omega arith in
    range_as known part at _ (take (n + more - n) (drop n new)) ((λ i. drop (long i) (take (n + more) (is i))) ∙ drop-take n more new ∙ ap (λ m. take m (drop n new)) count) range

-- where more was read behind a range, both are one, and where it was not, the range stays
pub range_on : {E : Type 0} (r : Result Unit E) (known : Option Image) (part : Part) (from at : ℕ) (old new : List ℕ) → at ≡ from + length old → OnErr r (new ≡ old) → OnOk r (take (length old) new ≡ old)
    → OnOk r (IsRangeAt known part at (drop (length old) new)) → IsRangeAt known part from old → IsRangeAt known part from new
range_on (Ok a) known part from at old new there kept front read range =
    range_as known part from new (old ++ drop (length old) new) (sym (take-append-drop (length old) new) ∙ ap (λ xs. xs ++ drop (length old) new) front)
    (range_joined known part from at old (drop (length old) new) there range read)
range_on (Err e) known part from at old new there kept front read range = range_as known part from new old kept range

-- what follows where a call answers
pub on_ok : {A E : Type 0} (r : Result A E) (P Q : Type 0) → (P → Q) → OnOk r P → OnOk r Q
on_ok (Ok a) P Q f p = f p
on_ok (Err e) P Q f p = tt

-- a body has fewer than 2^32 bytes
pub body_small : (region_len : ℕ) (header : Header) → LiesIn region_len header → body_len header < 4294967296
body_small region_len header l =
    let r = laid region_len header l in
    let small = l.small in
    let most = mul-le (header.regions - 1) (region_len - 1) 7 67108864 (omega (arith, r.few)) (omega arith) in
    omega (arith, r.room, most)

-- a fault that is neither a bad row nor a bad entry
pub no_damage : (f : FetchFault) → ((region at : ℕ) → f ≡ fault.BadRow region at → ⊥) → ((region at : ℕ) → f ≡ fault.BadIndex region at → ⊥) → NoDamage f
no_damage fault.Failed row index = tt
no_damage (fault.BadRow region at) row index = row region at refl
no_damage (fault.BadIndex region at) row index = index region at refl
no_damage fault.NoMemory row index = tt

pub if_ok : {A E : Type 0} (r : Result A E) (P Q : Type 0) → (P → Q) → OnOk r P → IfOk r (λ a. Q)
if_ok (Ok a) P Q f p = f p
if_ok (Err e) P Q f p = tt

-- ---- the order in which a part is read

-- a span begins at the offset of its entry, and ends where the next one begins
span_parts : (header : Header) (body : List ℕ) (i : ℕ) (s : RowSpan) → span_at header body i ≡ Ok s → (s.at ≡ (entry_at header body i).offset) × (s.end ≡ span_end header body i)
unfolding span_at
span_parts header body i s e = by (is_entry header (entry_at header body i)) (is_followed header body i) (nat_lt (entry_at header body i).offset (span_end header body i)) e
  where
    here : RowSpan
    here = record { at = (entry_at header body i).offset; end = span_end header body i; rows = (entry_at header body i).rows }

    by : (a b c : Bool)
        → ◌≡◌ {A = Result RowSpan ℕ} (if a then (if b then (if c then Ok here else Err (entry_place header i)) else Err (entry_place header (i + 1))) else Err (entry_place header i)) (Ok s)
        → (s.at ≡ (entry_at header body i).offset) × (s.end ≡ span_end header body i)
    by true true true e = let is : here ≡ s = cc in (sym (ap (λ r. r.at) is), sym (ap (λ r. r.end) is))
    by true true false e = absurd (cc)
    by true false c e = absurd (cc)
    by false b c e = absurd (cc)

module _ (image : Image) (known : Option Image) (source : Source) (entry : IndexEntry) (span : Span) (told : known ≡ Some image) (kept : IsEntryOf known source (entry, span)) where
  abbrev body : List ℕ
  body = body_in image source.part.region source.part.header

  parts : (span.at ≡ (entry_at source.part.header body source.next).offset) × (span.end ≡ span_end source.part.header body source.next)
  parts = span_parts source.part.header body source.next (row_span_of span) (told_as (λ i. span_at source.part.header (body_in i source.part.region source.part.header) source.next ≡ Ok (row_span_of span)) known image told kept.span.told)

  -- the rows of the next node are not yet behind
  pub begins_behind : IsInOrder image source → source.ahead.rows.from ≤ span.at
  begins_behind order = (let low = order.rows kept.there in omega (arith, low, parts.0))

  -- once they were read, those of the next one are not
  pub order_taken : (rows : WindowValue) → source.head ≡ Some (entry, span) → IsInOrder image source → rows.from ≤ span.at
      → IsInOrder image (record { part = source.part; next = source.next + 1; head = None; ahead = record { rows = rows; index = source.ahead.index; next = source.ahead.next } })
  order_taken rows head order low = record {
    index = (let one : kept_count source.head ≡ 1 = ap kept_count head in let index = order.index in omega (arith, one, index));
    rows = λ more.
        (let test : nat_lt (source.next + 1) source.part.header.nodes ≡ true = lt-ltb (source.next + 1) source.part.header.nodes more in
        let next : span_end source.part.header body source.next ≡ (entry_at source.part.header body (source.next + 1)).offset = rw test refl in
        let some = kept.span.some in omega (arith, parts.1, next, some, low));
  }

-- ---- two parts of which nothing was read

kept_start : (known : Option Image) (part : Part) → IsKept known (start_at part)
kept_start known part = (
  tt,
  record {
    rows = record { within = omega arith; range = empty_range known part };
    index = record { within = omega arith; range = empty_range known part };
    next = tt;
  },
)
  where
    empty_range : (known : Option Image) (part : Part) → IsRangeAt known part 0 []
    empty_range known part = each_told (λ image. [] ≡ slice_range (body_in image part.region part.header) 0 0) known (λ image t. sym (range_is (body_in image part.region part.header) 0 0 0 refl))

pub kept_front : (known : Option Image) (older newer : Part) (region_len : ℕ) → AreKept known (at_front older newer region_len)
kept_front known older newer region_len = (kept_start known older, kept_start known newer)

pub order_front : (image : Image) (older newer : Part) (region_len : ℕ) → AreInOrder image (at_front older newer region_len)
order_front image older newer region_len = record {
  older = record { index = omega arith; rows = λ there. omega arith };
  newer = record { index = omega arith; rows = λ there. omega arith };
}

pub bytes_front : (older newer : Part) (region_len : ℕ) → both_bytes_left (at_front older newer region_len) ≡ body_len older.header + body_len newer.header
bytes_front older newer region_len = omega arith

pub stands_front : (eye : Eye) (older newer : Part) (region_len : ℕ) (a b : List Row) → TellsRows eye older a → TellsRows eye newer b → StandsAt eye (at_front older newer region_len) a b
stands_front eye older newer region_len a b t u = record { of_older = starts_at eye (start_at older) older a refl refl t; of_newer = starts_at eye (start_at newer) newer b refl refl u }

-- in the grammar a row area is as long as the rows
pub area_told : (eye : Eye) (part : Part) (rows : List Row) → TellsRows eye part rows → part.header.area ≡ rows_len rows
area_told eye part rows t = ap (λ (h : Header). h.area) (sym t.of_part) ∙ t.sealed.of_rows.2
