-- Lists of the oracle's answers (oracle/README.md, "The replay lists"): what stands in one, what is wanted of a lent slice after a
-- call, and the account of a replay.
--     field f i              field i of a record, eight bytes each; 0 where there is none
--     kind_at, record_end    the record from a byte on: the number of its kind, and where it ends
--     wanted_cell f n b o i   element i of a slice whose first n are b plus a field, modulo 2 ^ 64, the others o, as they were
--     Alike l w i            the first i elements of l are those of w
--     nothing, recorded, called, refused, differing, valued     the account at first, and after each thing
--     told, ended            the account that the code keeps, and with what reading the list answered; AccountTold: all is told
--     sized, last_read       the account with what reading answers: a record of so many bytes of fields, and the last record
--     untallied, tallied     the account of one kind at first, and after a record
--     Compared               what comparing a slice shows: where no disagreement is noted, every element is what is wanted
--     first_differing, first_valued     the first disagreement, after a difference and after a value
-- Assumes nothing.
use Rattle.std.specs.Prelude.{◌≡◌, ◌⊎◌, Bool, true, false, cond, ◌&&◌, List, ℕ, ◌+◌, ◌*◌, ◌/◌, ◌≤◌, ◌<◌, ltb, eqb, length, get_or, Option, Some, Result, Ok, Err}
use Rattle.std.specs.Option.{option_or}
use Rattle.words.specs.Bytes as bytes
use Rattle.words.specs.Ring.{add, sub}
use Rattle.replay.specs.declared.What.{What}
use Rattle.replay.specs.declared.Place.{Place}
use Rattle.replay.specs.declared.Malformed.{Malformed}
use Rattle.replay.specs.declared.Disagreement.{Disagreement}
use Rattle.replay.specs.declared.Account as code
use Rattle.replay.specs.declared.Tally.{Tally}

-- ---- what stands in a list

unfoldable pub field : List ℕ → ℕ → ℕ
field f i = cond (ltb i (length f / 8)) (bytes.field 8 f (8 * i)) 0

-- the record from `at` on: the number of its kind
abbrev pub kind_at : List ℕ → ℕ → ℕ
kind_at list at = bytes.field 8 list at

-- where it ends: behind its kind, its count of fields, and the fields
abbrev pub record_end : List ℕ → ℕ → ℕ
record_end list at = at + 16 + 8 * bytes.field 8 list (at + 8)

-- ---- what is wanted

unfoldable pub wanted_cell : List ℕ → ℕ → ℕ → ℕ → ℕ → ℕ
wanted_cell f n base kept i = cond (ltb i n) (add 64 base (field f i)) kept

abbrev pub Alike : List ℕ → (ℕ → ℕ) → ℕ → Type 0
Alike given wanted i = (i ≤ length given) × ((k : ℕ) → k < i → get_or given k 0 ≡ wanted k)

-- ---- the account

pub record Account : Type 0 where
  pub records : ℕ
  pub calls : ℕ
  pub disagree : ℕ
  pub kind : ℕ
  pub agrees : Bool
  pub malformed : Bool

abbrev pub nothing : Account
nothing = record { records = 0; calls = 0; disagree = 0; kind = 0; agrees = true; malformed = false }

abbrev pub recorded : Account → ℕ → Account
recorded a k =
    record { records = add 64 a.records 1; calls = a.calls; disagree = a.disagree; kind = k; agrees = a.agrees; malformed = a.malformed }

abbrev pub called : Account → Account
called a =
    record { records = a.records; calls = add 64 a.calls 1; disagree = a.disagree; kind = a.kind; agrees = true; malformed = a.malformed }

abbrev pub refused : Account → Account
refused a =
    record { records = a.records; calls = a.calls; disagree = a.disagree; kind = a.kind; agrees = a.agrees; malformed = true }

-- a call that disagrees is counted once
unfoldable pub differing : Account → Account
differing a =
    cond a.agrees
    (record { records = a.records; calls = a.calls; disagree = add 64 a.disagree 1; kind = a.kind; agrees = false; malformed = a.malformed })
    a

unfoldable pub valued : Account → ℕ → ℕ → Account
valued a wanted given = cond (eqb wanted given) a (differing a)

abbrev pub Compared : Account → Account → ℕ → List ℕ → (ℕ → ℕ) → Type 0
Compared a r n given wanted =
    (r ≡ differing a) ⊎ ((r ≡ a) × (n ≤ length given) × ((k : ℕ) → k < length given → get_or given k 0 ≡ wanted k))

-- the same of elements that are asked for: what may be given at an index may be wanted there
abbrev pub ComparedBy : Account → Account → ℕ → ℕ → (ℕ → ℕ → Type 0) → (ℕ → ℕ → Type 0) → Type 0
ComparedBy a r n size Wanted Given =
    (r ≡ differing a) ⊎ ((r ≡ a) × (n ≤ size) × ((k : ℕ) → k < size → (x : ℕ) × Wanted k x × Given k x))

-- ---- the account that the code keeps

-- in it the list is not malformed so far
abbrev pub told : code.Account → Account
told a =
    record { records = a.total.records; calls = a.total.calls; disagree = a.total.disagree; kind = a.kind; agrees = a.agrees; malformed = false }

-- but for the first disagreement, of which the code has more to say, nothing of it is lost
abbrev pub AccountTold : Type 0
AccountTold = (a b : code.Account) → told a ≡ told b → a.first ≡ b.first → a ≡ b

-- once reading the list has answered that it is, it is
abbrev pub ended : {A : Type 0} → Account → Result A Malformed → Account
ended a (Ok _) = a
ended a (Err _) = refused a

-- a record whose fields are so many bytes
abbrev pub sized : Account → List ℕ → ℕ → Account
sized a fields n = cond (eqb (length fields) n) a (refused a)

-- the last record has one field, how many records stand before it, and nothing stands behind it
abbrev pub last_read : Account → ℕ → List ℕ → ℕ → Account
last_read a size fields end = cond (eqb (length fields) 8 && eqb end size && eqb (field fields 0) a.records) a (refused a)

abbrev pub place_of : code.Account → Place
place_of a = record { number = a.total.records; kind = a.kind }

-- the first difference of a call that agreed so far is a disagreement; the first of these is kept
abbrev pub first_differing : code.Account → What → ℕ → ℕ → ℕ → Option Disagreement
first_differing a what at wanted given =
    cond a.agrees (option_or a.first (Some (record { place = place_of a; call = a.total.calls; what = what; at = at; wanted = wanted; given = given }))) a.first

abbrev pub first_valued : code.Account → What → ℕ → ℕ → Option Disagreement
first_valued a what wanted given = cond (eqb wanted given) a.first (first_differing a what 0 wanted given)

-- ---- the account of one kind

abbrev pub untallied : Tally
untallied = record { records = 0; calls = 0; disagree = 0 }

-- what the account gained by a record counts for the record's kind
unfoldable pub tallied : Tally → ℕ → Account → Account → Tally
tallied t k a b =
    cond (eqb b.kind k)
    (record {
      records = add 64 t.records (sub 64 b.records a.records);
      calls = add 64 t.calls (sub 64 b.calls a.calls);
      disagree = add 64 t.disagree (sub 64 b.disagree a.disagree);
    })
    t
