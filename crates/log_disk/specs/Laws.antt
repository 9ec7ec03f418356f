-- The laws of images and of eyes, as statements.
use Rattle.std.specs.Prelude.{◌≡◌, ◌≢◌, ◌⊎◌, ℕ, ◌<◌, ◌≤◌, Bool, true, List, [], length, Some, None}
use Rattle.log_disk.specs.Disk.{Image, region_of, Moment, Told, Disk, Eye, IsImageAt, IsImageNow, IsImageSince, IsToldOf, SameOutside, HasGoneOn, HasSynced, IsSound, IsUnseen, Reads, Writes, Syncs, OnlyFails, Opens, Closes, clock_of, unsynced_too, told_anew, new_disk}
use Rattle.log_disk.specs.Moments.{LeavesOnly, IsLeft, GrowsOn, Continues, ContinuesOn, IsOpenOn}

-- an image now is one since each clock value that is not later
abbrev pub NowIsSince : Type 0
NowIsSince = (clock : ℕ) (told : Told) (image : Image) → clock ≤ clock_of told → IsImageNow told image → IsImageSince clock told image

-- since the last moment there are no others
abbrev pub OnlyNowSinceNow : Type 0
OnlyNowSinceNow = (told : Told) (image : Image) → IsImageSince (clock_of told) told image → IsImageNow told image

-- as time goes on, the images since a clock value are those before and those now
abbrev pub TimeGoesOn : Type 0
TimeGoesOn =
    (clock : ℕ) (old new : Told) (moment : Moment) (image : Image) → clock ≤ clock_of old → HasGoneOn old new moment
    → (IsImageSince clock new image → IsImageSince clock old image ⊎ IsImageNow new image) × (IsImageSince clock old image → IsImageSince clock new image) × (IsImageNow new image → IsImageSince clock new image)

-- once a range is unsynced, an image is one of before, with any bytes in the range
abbrev pub WritesTear : Type 0
WritesTear =
    (moment : Moment) (region from end : ℕ) (image : Image)
    → (IsImageAt (unsynced_too moment (record { region = region; from = from; end = end })) image → (before : Image) × IsImageAt moment before × SameOutside region from end before image)
    × ((before : Image) → IsImageAt moment before → SameOutside region from end before image → IsImageAt (unsynced_too moment (record { region = region; from = from; end = end })) image)

-- after a sync that succeeded, an image is exactly what a read gives
abbrev pub SyncsKeep : Type 0
SyncsKeep =
    (disk : Disk) (old new : Told) (image : Image) → IsToldOf disk old → HasSynced disk old new
    → (IsImageNow new image → image ≡ new.bytes) × (image ≡ new.bytes → IsImageNow new image)

-- the images of which a test says yes
abbrev pub Passes : (Image → Bool) → Image → Type 0
Passes test image = test image ≡ true

-- a run of no call, one call more, and two runs one behind the other
abbrev pub RunsJoin : Type 0
RunsJoin =
    (test : Image → Bool) (old mid new : Told) (moment : Moment)
    → (IsLeft (Passes test) old → LeavesOnly (Passes test) old old) × (LeavesOnly (Passes test) old mid → HasGoneOn mid new moment → IsLeft (Passes test) new → LeavesOnly (Passes test) old new)
    × (LeavesOnly (Passes test) old mid → LeavesOnly (Passes test) mid new → LeavesOnly (Passes test) old new)

-- as long as an eye is open, its regions on the disk hold its bytes
abbrev pub EyesStayTrue : Type 0
EyesStayTrue =
    (regions : List ℕ) (eye other : Eye) (region at : ℕ) (bytes : List ℕ) (failed : Bool) (old new : Disk)
    → (Opens regions eye old new → IsOpenOn eye new) × (Opens regions other old new → IsOpenOn eye old → IsOpenOn eye new) × (IsUnseen old region → Writes region at bytes (failed ≡ true) old new → IsOpenOn eye old → IsOpenOn eye new)
    × (Syncs old new → IsOpenOn eye old → IsOpenOn eye new) × (Closes other old new → eye.number ≢ other.number → IsOpenOn eye old → IsOpenOn eye new)

-- where nothing is unsynced, an image is exactly what a read gives
abbrev pub SyncedShows : Type 0
SyncedShows =
    (disk : Disk) (told : Told) (image : Image) → IsToldOf disk told → disk.unsynced ≡ []
    → (IsImageNow told image → image ≡ told.bytes) × (image ≡ told.bytes → IsImageNow told image)

-- a relation of the disk before a call and after it that each call brings about
abbrev pub EachCall : (Disk → Disk → Type 0) → Type 0
EachCall R =
    (region at : ℕ) (bytes : List ℕ) (failed : Bool) (regions : List ℕ) (eye : Eye) (old new : Disk)
    → (Reads region at bytes (failed ≡ true) old new → R old new) × (Writes region at bytes (failed ≡ true) old new → R old new) × (Syncs old new → R old new)
    × (OnlyFails old new → R old new) × (Opens regions eye old new → R old new) × (Closes eye old new → R old new)

-- what each call does to the images since earlier clock values
abbrev pub CallsGrow : Type 0
CallsGrow = EachCall GrowsOn

-- the moments that were go on to be the first ones: with no call, and over two runs
abbrev pub TimesJoin : Type 0
TimesJoin = (old mid new : Disk) → ContinuesOn old old × (ContinuesOn old mid → ContinuesOn mid new → ContinuesOn old new)

-- so they do over each call
abbrev pub CallsContinue : Type 0
CallsContinue = EachCall ContinuesOn

-- as they do, the clock does not go back, and what was an image since a clock value still is
abbrev pub ContinuedKeeps : Type 0
ContinuedKeeps =
    (old new : Told) → Continues old new
    → (clock_of old ≤ clock_of new) × ((clock : ℕ) (image : Image) → clock ≤ clock_of old → IsImageSince clock old image → IsImageSince clock new image)

-- a new disk is sound, where what it shows, if it does, has its geometry
abbrev pub NewIsSound : Type 0
NewIsSound =
    (regions region_len : ℕ) (image : Image)
    → IsSound (new_disk regions region_len None)
    × (length image ≡ regions → ((r : ℕ) → r < regions → length (region_of image r) ≡ region_len) → IsSound (new_disk regions region_len (Some (told_anew image))))

-- what holds of a disk at each moment is kept by each call
abbrev pub CallsKeepSound : Type 0
CallsKeepSound =
    (region at : ℕ) (bytes : List ℕ) (failed : Bool) (regions : List ℕ) (eye : Eye) (old new : Disk) → IsSound old
    → (Reads region at bytes (failed ≡ true) old new → IsSound new) × (Writes region at bytes (failed ≡ true) old new → IsSound new) × (Syncs old new → IsSound new)
    × (OnlyFails old new → IsSound new) × (Opens regions eye old new → IsSound new) × (Closes eye old new → IsSound new)
