-- Entries as their bytes say, and what is bad of them.
use Rattle.std.proofs.Common.{◌≡◌, ℕ, ◌+◌, ◌<◌, ◌≤◌, true, false, List, length, take, drop, refl, sym, ap, ◌∙◌, arith, Option, Ok, Err}
use Rattle.std.specs.Prelude.{slice_range, nat_lt}
use Rattle.std.specs.Int.{from_be_bytes, w16, w32}
use Rattle.std.proofs.lemmas.List.{drop-take, take-take, drop-drop}
use Rattle.fine_model.specs.declared.Header.{Header}
use Rattle.fine_model.specs.declared.Part.{Part}
use Rattle.fine_model.specs.Regions.{Image, body_in}
use Rattle.fine_model.specs.Seek.{entry_of, entry_at, entry_place, is_entry, span_at, span_end, is_followed}
use Rattle.partition_index.specs.Entries.{model_of}
use Rattle.std.proofs.lemmas.Bool.{lt-ltb, le-ltb}
use Rattle.std.proofs.lemmas.Bool.Decides.{nat_tests}
use Rattle.partition_index.specs.Search.{IfTold, IsRangeAt, IsEntryAt, IsNoEntryAt, IsEndOf, IsSpanAt, IsBadAt}
use Rattle.fine_model.specs.Seek.{IndexEntry as ModelEntry}
use Rattle.partition_index.specs.declared.entries.IndexEntry.{IndexEntry}
use Rattle.partition_index.proofs.Looking.{each_told, told_as, range_is}

-- a field behind a place, in the bytes from the place on
field : (xs : List ℕ) (at k n m : ℕ) → n ≤ m → take n (drop (at + k) xs) ≡ take n (drop k (take (k + m) (drop at xs)))
field xs at k n m h = sym (ap (take n) (drop-take k m (drop at xs)) ∙ take-take n m (drop k (drop at xs)) h ∙ ap (take n) (drop-drop k at xs))

-- an entry is its 14 bytes
pub entry_from : (body : List ℕ) (at : ℕ) → entry_of body at ≡ entry_of (take 14 (drop at body)) 0
entry_from body at =
    let a : take 2 (drop at body) ≡ take 2 (take 14 (drop at body)) = sym (take-take 2 14 (drop at body) (omega arith)) in
    let b : take 4 (drop (at + 2) body) ≡ take 4 (drop 2 (take 14 (drop at body))) = field body at 2 4 12 (omega arith) in
    let c : take 4 (drop (at + 6) body) ≡ take 4 (drop 6 (take 14 (drop at body))) = field body at 6 4 8 (omega arith) in
    let d : take 4 (drop (at + 10) body) ≡ take 4 (drop 10 (take 14 (drop at body))) = field body at 10 4 4 (omega arith) in
    λ i. record {
      node = record { bucket = from_be_bytes w16 (a i); number = from_be_bytes w32 (b i) };
      offset = from_be_bytes w32 (c i);
      rows = from_be_bytes w32 (d i);
    }

-- what bytes spell is the entry, where they are told at its place
pub told_entry : (known : Option Image) (p : Part) (i : ℕ) (bytes : List ℕ) (entry : IndexEntry) → IsRangeAt known p (entry_place p.header i) bytes → length bytes ≡ 14 → model_of entry ≡ entry_of bytes 0
    → IfTold known p (λ body. entry_at p.header body i ≡ model_of entry)
told_entry known p i bytes entry range long spelled =
    each_told (λ image. entry_at p.header (body_in image p.region p.header) i ≡ model_of entry) known
    (λ image t.
    let body : List ℕ = body_in image p.region p.header in
    let at : ℕ = entry_place p.header i in
    let read : bytes ≡ slice_range body at (at + length bytes) = told_as (λ j. bytes ≡ slice_range (body_in j p.region p.header) at (at + length bytes)) known image t range in
    let is : bytes ≡ take 14 (drop at body) = read ∙ range_is body at (at + length bytes) 14 (ap (λ n. at + n) long) in
    entry_from body at ∙ sym (ap (λ xs. entry_of xs 0) is) ∙ sym spelled)

-- what a span is, by the tests
pub span_bad : (header : Header) (body : List ℕ) (i : ℕ) → is_entry header (entry_at header body i) ≡ false → span_at header body i ≡ Err (entry_place header i)
unfolding span_at
span_bad header body i h = rw h refl

pub span_empty : (header : Header) (body : List ℕ) (i : ℕ) → is_entry header (entry_at header body i) ≡ true → is_followed header body i ≡ true → nat_lt (entry_at header body i).offset (span_end header body i) ≡ false
    → span_at header body i ≡ Err (entry_place header i)
unfolding span_at
span_empty header body i a b c = rw (a, b, c) refl

pub span_good : (header : Header) (body : List ℕ) (i : ℕ) → is_entry header (entry_at header body i) ≡ true → is_followed header body i ≡ true → nat_lt (entry_at header body i).offset (span_end header body i) ≡ true
    → span_at header body i ≡ Ok (record { at = (entry_at header body i).offset; end = span_end header body i; rows = (entry_at header body i).rows })
unfolding span_at
span_good header body i a b c = rw (a, b, c) refl

-- what was read is no entry
pub bad_entry : (known : Option Image) (p : Part) (at i : ℕ) (entry : IndexEntry) → i < p.header.nodes → at ≡ entry_place p.header i → is_entry p.header (model_of entry) ≡ false
    → IfTold known p (λ body. entry_at p.header body i ≡ model_of entry) → IsBadAt known p at
bad_entry known p at i entry there place none told = record {
  entry = i;
  there = there;
  place = place;
  told = each_told (λ image. (j : ℕ) × (j < p.header.nodes) × (span_at p.header (body_in image p.region p.header) j ≡ Err at)) known
      (λ image t.
      let body : List ℕ = body_in image p.region p.header in
      let is : entry_at p.header body i ≡ model_of entry = told_as (λ j. entry_at p.header (body_in j p.region p.header) i ≡ model_of entry) known image t told in
      (i, there, span_bad p.header body i (ap (is_entry p.header) is ∙ none) ∙ ap Err (sym place)));
}

entry_sound : (header : Header) (e : ModelEntry) → is_entry header e ≡ true → (e.offset < header.area) × (1 ≤ e.rows) × (e.rows ≤ header.rows)
entry_sound header e h = grind (arith, nat_tests)

-- the span of an entry, where it is not empty
pub span_some : (known : Option Image) (p : Part) (i end : ℕ) (entry : IndexEntry) → IsEntryAt known p i entry → IsEndOf known p i end → entry.offset < end
    → IsSpanAt known p i (record { at = entry.offset; end = end; rows = entry.rows })
span_some known p i end entry e f some =
    let sound = entry_sound p.header (model_of entry) e.sound in record {
      some = some;
      within = f.within;
      counted = (sound.1, sound.2);
      told = each_told (λ image. span_at p.header (body_in image p.region p.header) i ≡ Ok (record { at = entry.offset; end = end; rows = entry.rows })) known
          (λ image t.
          let body : List ℕ = body_in image p.region p.header in
          let is : entry_at p.header body i ≡ model_of entry = told_as (λ j. entry_at p.header (body_in j p.region p.header) i ≡ model_of entry) known image t e.told in
          let ends : (is_followed p.header body i ≡ true) × (span_end p.header body i ≡ end) = told_as (λ j. (is_followed p.header (body_in j p.region p.header) i ≡ true) × (span_end p.header (body_in j p.region p.header) i ≡ end)) known image t f.told in
          let more : nat_lt (entry_at p.header body i).offset (span_end p.header body i) ≡ true = ap (λ x. nat_lt x.offset (span_end p.header body i)) is ∙ ap (nat_lt entry.offset) ends.1 ∙ lt-ltb entry.offset end some in
          span_good p.header body i (ap (is_entry p.header) is ∙ e.sound) ends.0 more
          ∙ λ k. Ok (record { at = (is k).offset; end = ends.1 k; rows = (is k).rows }));
    }

pub empty_span : (known : Option Image) (p : Part) (i at end : ℕ) (entry : IndexEntry) → at ≡ entry_place p.header i → IsEntryAt known p i entry → IsEndOf known p i end → end ≤ entry.offset
    → IfTold known p (λ body. span_at p.header body i ≡ Err at)
empty_span known p i at end entry place e f none =
    each_told (λ image. span_at p.header (body_in image p.region p.header) i ≡ Err at) known
    (λ image t.
    let body : List ℕ = body_in image p.region p.header in
    let is : entry_at p.header body i ≡ model_of entry = told_as (λ j. entry_at p.header (body_in j p.region p.header) i ≡ model_of entry) known image t e.told in
    let ends : (is_followed p.header body i ≡ true) × (span_end p.header body i ≡ end) = told_as (λ j. (is_followed p.header (body_in j p.region p.header) i ≡ true) × (span_end p.header (body_in j p.region p.header) i ≡ end)) known image t f.told in
    let more : nat_lt (entry_at p.header body i).offset (span_end p.header body i) ≡ false = ap (λ x. nat_lt x.offset (span_end p.header body i)) is ∙ ap (nat_lt entry.offset) ends.1 ∙ le-ltb entry.offset end none in
    span_empty p.header body i (ap (is_entry p.header) is ∙ e.sound) ends.0 more ∙ ap Err (sym place))

pub span_none : (known : Option Image) (p : Part) (i at end : ℕ) (entry : IndexEntry) → i < p.header.nodes → at ≡ entry_place p.header i → IsEntryAt known p i entry → IsEndOf known p i end → end ≤ entry.offset → IsBadAt known p at
span_none known p i at end entry there place e f none = record {
  entry = i;
  there = there;
  place = place;
  told = each_told (λ image. (j : ℕ) × (j < p.header.nodes) × (span_at p.header (body_in image p.region p.header) j ≡ Err at)) known
      (λ image t. (i, there, told_as (λ j. span_at p.header (body_in j p.region p.header) i ≡ Err at) known image t (empty_span known p i at end entry place e f none)));
}

-- the span of an entry behind which none stands
pub span_unfollowed : (header : Header) (body : List ℕ) (i : ℕ) → is_entry header (entry_at header body i) ≡ true → is_followed header body i ≡ false → span_at header body i ≡ Err (entry_place header (i + 1))
unfolding span_at
span_unfollowed header body i a b = rw (a, b) refl

pub bad_next : (known : Option Image) (p : Part) (i at : ℕ) (entry : IndexEntry) → i + 1 < p.header.nodes → IsEntryAt known p i entry → IsNoEntryAt known p (i + 1) at → IfTold known p (λ body. span_at p.header body i ≡ Err at)
bad_next known p i at entry more e n =
    each_told (λ image. span_at p.header (body_in image p.region p.header) i ≡ Err at) known
    (λ image t.
    let body : List ℕ = body_in image p.region p.header in
    let is : entry_at p.header body i ≡ model_of entry = told_as (λ j. entry_at p.header (body_in j p.region p.header) i ≡ model_of entry) known image t e.told in
    let none : is_entry p.header (entry_at p.header body (i + 1)) ≡ false = told_as (λ j. is_entry p.header (entry_at p.header (body_in j p.region p.header) (i + 1)) ≡ false) known image t n.told in
    let test : nat_lt (i + 1) p.header.nodes ≡ true = lt-ltb (i + 1) p.header.nodes more in
    span_unfollowed p.header body i (ap (is_entry p.header) is ∙ e.sound) (rw test none) ∙ ap Err (sym n.place))

-- what was read is none
pub no_entry : (known : Option Image) (p : Part) (at i : ℕ) (entry : IndexEntry) → at ≡ entry_place p.header i → is_entry p.header (model_of entry) ≡ false → IfTold known p (λ body. entry_at p.header body i ≡ model_of entry) → IsNoEntryAt known p i at
no_entry known p at i entry place none told = record {
  place = place;
  told = each_told (λ image. is_entry p.header (entry_at p.header (body_in image p.region p.header) i) ≡ false) known
      (λ image t. ap (is_entry p.header) (told_as (λ j. entry_at p.header (body_in j p.region p.header) i ≡ model_of entry) known image t told) ∙ none);
}
