-- What is said to a sink through a page, which gathers small pieces.
use Rattle.std.specs.Prelude.{◌≡◌, ℕ, ◌≤◌, Bool, true, false, List, ◌++◌, Option}
use Rattle.fine_model.specs.Faults.{HasRisen, CountsFault}
use Rattle.script_text.specs.Streams.{behind, IsPart, Puts}

-- a page: the bytes that it holds back, and whether the sink has failed since it was begun
pub record Gathered : Type 0 where
  pub bytes : List ℕ
  pub failed : Bool

-- a sink, and the page before it
pub record Desk : Type 0 where
  pub written : Option (List ℕ)
  pub faults : ℕ
  pub page : Gathered

abbrev pub desk : Option (List ℕ) → ℕ → Gathered → Desk
desk written faults page = record { written = written; faults = faults; page = page }

-- nothing failed: a first part of what was said is written, and the page holds the rest
pub record Holds (start : Option (List ℕ)) (count : ℕ) (said : List ℕ) (d : Desk) : Type 0 where
  pub part : List ℕ
  pub written : d.written ≡ behind start part
  pub whole : said ≡ part ++ d.page.bytes
  pub faults : d.faults ≡ count

-- the sink failed: some first bytes of what was said are written
pub record Lost (start : Option (List ℕ)) (count : ℕ) (said : List ℕ) (d : Desk) : Type 0 where
  pub part : IsPart said start d.written
  pub rises : HasRisen count d.faults
  pub no_lower : count ≤ d.faults

-- a text was said behind a start, by a sink with this count then
pub record Says (start : Option (List ℕ)) (count : ℕ) (said : List ℕ) (d : Desk) : Type 0 where
  pub holds : d.page.failed ≡ false → Holds start count said d
  pub lost : d.page.failed ≡ true → Lost start count said d

-- a text was said behind what was said before
pub record Sends (text : List ℕ) (old new : Desk) : Type 0 where
  pub says : (start : Option (List ℕ)) (count : ℕ) (said : List ℕ) → Says start count said old → Says start count (said ++ text) new

-- the page was put as a whole: what was said is what the sink took, or failed to take
pub record Finishes (old : Desk) (failed : Type 0) (written : Option (List ℕ)) (faults : ℕ) : Type 0 where
  pub puts : (start : Option (List ℕ)) (count : ℕ) (said : List ℕ) → Says start count said old → Puts said failed start written
  pub counts : (start : Option (List ℕ)) (count : ℕ) (said : List ℕ) → Says start count said old → CountsFault failed count faults
