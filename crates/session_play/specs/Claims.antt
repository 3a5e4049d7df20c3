-- What is promised of the text: each statement once, under a name. proofs/Promises.antt proves them.
use Rattle.std.specs.Prelude.{ℕ, ◌+◌, ◌*◌, ◌<◌, ◌≤◌, ◌≡◌, List, true, length}
use Rattle.memory.specs.declared.Sizes.{Sizes}
use Rattle.memory.specs.Pieces.{Memory, most_words}
use Rattle.memory.specs.Requests.{open_board}
use Rattle.memory.specs.History.{◌∈◌, Event, reached}
use Rattle.session_show.specs.Claims.{ShowsTheBoard}
use Rattle.session_run.specs.Run.{Run, run_on}
use Rattle.session_print.specs.Print.{sizes_asked, first_asked, lent, text}

-- the sizes, the first version and the run of a session
abbrev pub ran : List ℕ → Run
ran bytes = run_on (sizes_asked bytes) (first_asked bytes) (lent (sizes_asked bytes)) bytes

-- Of every session that is played to its end, the `w` lines are those of exactly the addresses whose logical value is not 0 or whose
-- logical version is not the first, each with the logical value and version.
abbrev pub WordLinesAreTheBoard : Type 0
WordLinesAreTheBoard = (bytes : List ℕ) → (ran bytes).whole ≡ true → ShowsTheBoard (sizes_asked bytes) (first_asked bytes) (ran bytes).board

-- The board that is printed is one that is reached after an opening that answered 0: all that is promised of such boards holds of it.
pub record Reached (z : Sizes) (v : ℕ) (m : Memory) : Type 0 where
  pub opens : (open_board z v (lent z)).number ≡ 0
  pub events : List Event
  pub sizes : (reached z v (lent z) events).sizes ≡ z
  pub first : (reached z v (lent z) events).first ≡ v
  pub memory : (reached z v (lent z) events).memory ≡ m

abbrev pub PlayedIsReached : Type 0
PlayedIsReached = (bytes : List ℕ) → (ran bytes).whole ≡ true → Reached (sizes_asked bytes) (first_asked bytes) (ran bytes).board

-- The longest text. At most 20,000 records of three bytes or more, and one that is refused, have a line of an index of five digits,
-- a number of two and a value of ten. At most 4,096 words have one of an address of four digits, and value and version of ten.
abbrev pub most_text : ℕ
most_text = 20 * 20001 + 29 * most_words

abbrev pub Bytes : List ℕ → Type 0
Bytes l = (b : ℕ) → b ∈ l → b < 256

abbrev pub TextIsShort : Type 0
TextIsShort = (bytes : List ℕ) → Bytes bytes → length (text bytes) ≤ most_text
